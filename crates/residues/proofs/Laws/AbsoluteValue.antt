-- The absolute value of a 32-bit number by the bits of its sign, which a shift of its 64-bit form gives: -1 below zero, and 0 elsewhere.
--     turned-held       the number's bits, turned over where it is negative, less the sign
use Rattle.std.specs.Prelude.{◌≡◌, refl, ℕ, suc, ◌-◌, ◌<◌, ℤ, pos, negsuc, nat_abs, ◌-ℤ◌}
use Rattle.std.proofs.Common.{ap, arith, SFits, to_z, of_z, to_z-of_z}
use Rattle.std.specs.Int.Bits.{bit_xor, xor_add_and, xor_zero_r}
use Rattle.std.proofs.lemmas.Nat.{and_mask}
use Rattle.std.specs.Int.Signed.{shr_z}
use Rattle.std.specs.Int.{w32, w64}
use Rattle.std.proofs.Math.Facts.{to_z_pos}
use Rattle.integers.specs.Laws.Bridge.{nat_abs_pn, pn_min, bnd, sub_pn, zarith}
use Rattle.residues.proofs.Laws.Words.{held, wide}

abbrev sign : ℤ → ℤ
sign (pos n) = pos 0
sign (negsuc n) = negsuc 0

shifted : (x : ℤ) → SFits w32 x → shr_z x 9223372036854775808 ≡ sign x
shifted (pos n) h = ap pos (omega (arith, h.sfits))
shifted (negsuc n) h = ap negsuc (omega (arith, h.sfits))

-- all bits of n turned over, and turned over again
twice-over : (n : ℕ) → n < 9223372036854775808 → bit_xor (18446744073709551616 - suc n) 18446744073709551615 ≡ n
twice-over n h =
    let a = 18446744073709551616 - suc n in
    omega (arith, xor_add_and a 18446744073709551615, and_mask a 64)

turned : (x : ℤ) → SFits w32 x → to_z w64 (bit_xor (of_z w64 x) (of_z w64 (sign x))) -ℤ sign x ≡ pos (nat_abs x)
turned (pos n) h = rw (xor_zero_r n, to_z_pos w64 {n = n} (omega (arith, h.sfits))) (omega (zarith, sub_pn (pos n) (pos 0)))
turned (negsuc n) h = rw (twice-over n (omega (arith, h.sfits)), to_z_pos w64 {n = n} (omega (arith, h.sfits))) (omega zarith)

-- as the machine holds the steps
module _ {x : ℤ} (fits : SFits w32 x) where
  sign-held : shr_z (held (to_z w32 (of_z w32 x))) 9223372036854775808 ≡ sign x
  sign-held = rw (wide fits) (shifted x fits)

  sign-back : held (sign x) ≡ sign x
  sign-back = back x
    where
      back : (z : ℤ) → held (sign z) ≡ sign z
      back (pos n) = refl
      back (negsuc n) = refl

  pub turned-held :
      to_z w64 (bit_xor (of_z w64 (to_z w32 (of_z w32 x))) (of_z w64 (shr_z (held (to_z w32 (of_z w32 x))) 9223372036854775808)))
      -ℤ held (shr_z (held (to_z w32 (of_z w32 x))) 9223372036854775808)
      ≡ pos (nat_abs x)
  turned-held = rw (sign-held, sign-back, to_z-of_z fits) (turned x fits)

  pub magnitude_fits : SFits w64 (pos (nat_abs x))
  magnitude_fits = omega (zarith, bnd x, nat_abs_pn x, pn_min x, fits.sfits)
