-- The steps of `quotient`, as DigitSteps.antt proves of them: its constant, its locals, and its locals as the machine holds them.
use Rattle.std.specs.Prelude.{ℕ, ◌+◌, ◌-◌, ◌*◌, ◌/◌, ◌%◌, ℤ, pos, nat_abs, ◌+ℤ◌, ◌*ℤ◌}
use Rattle.std.proofs.Common.{to_z, of_z}
use Rattle.std.specs.Int.Signed.{quot_z, rem_z}
use Rattle.std.specs.Int.{w32, w64}
use Rattle.residues.proofs.Laws.Words.{held}

-- the constant of `quotient`
abbrev pub bases_added : ℕ
bases_added = 2147483648

-- the locals of `quotient`: the number that is divided
abbrev pub raised : ℕ → ℤ → ℕ
raised b x = nat_abs (x +ℤ pos (b * bases_added))

-- 1 where the remainder r is above half of b, or is half of it and k, the quotient rounded down, is odd; else 0
abbrev pub upward : (b k r : ℕ) → ℕ
upward b k r = (2 * r + k % 2 + (131071 - b)) / 131072

-- `raised`, `down` and `remainder` of `quotient` as the machine holds them
abbrev pub dividend : ℕ → ℤ → ℤ
dividend b x = held (held (to_z w32 (of_z w32 x)) +ℤ held (to_z w64 b *ℤ pos bases_added))

abbrev pub down : ℕ → ℤ → ℕ
down b x = nat_abs (held (quot_z (dividend b x) (to_z w64 b)))

abbrev pub remainder : ℕ → ℤ → ℕ
remainder b x = nat_abs (held (rem_z (dividend b x) (to_z w64 b)))
