-- SPECIFICATION 2.8: "Digits to base B, t of them: each low digit is at least -B/2 and at most B/2 (integers, for odd B as well), congruent to
-- the value modulo B; subtract it, divide by B, repeat. The last digit is what is left. When a value lies exactly half a base from two
-- multiples, the low digit is the one of +B/2 and -B/2 that leaves an even quotient."
-- "Recomposition is modulo q."
--     low b z            the low digit: the one definition of the digit rule, by halfway, leaves_even and even_half
--     LowDigit b z e     the same rule as a property of e
--     rest b z           what is left after the low digit
--     digit b t e z      digit e of t
--     split b t xs       the digits of a list of numbers, digit by digit
--     value b t f        f 0 + b · f 1 + .. + b^(t-1) · f (t-1), of integers
use Rattle.std.specs.Prelude.{◌≡◌, Bool, true, cond, List, map, ℕ, zero, suc, ◌*◌, ◌/◌, ◌%◌, ◌^◌, ◌≤◌, eqb, ltb, ℤ, pos, neg_ℤ, nat_abs, ◌+ℤ◌, ◌-ℤ◌, ◌*ℤ◌}
use Rattle.std.specs.Int.Signed.{quot_z}
use Rattle.integers.specs.Flat.{flat}
use Rattle.integers.specs.Remainder.{emod, centre}

-- "b, b1, b2 not 2..65536" is refused
abbrev pub least_base : ℕ
least_base = 2

abbrev pub most_base : ℕ
most_base = 65536

pub record Base (b : ℕ) : Type 0 where
  pub least : least_base ≤ b
  pub most : b ≤ most_base

-- z "lies exactly half a base from two multiples"
unfoldable pub halfway : ℕ → ℤ → Bool
halfway b z = eqb (emod z b * 2) b

-- e, subtracted from z, "leaves an even quotient"; it counts only where e is congruent to z, and there the division is exact
unfoldable pub leaves_even : ℕ → ℤ → ℤ → Bool
leaves_even b z e = eqb (nat_abs (quot_z (z -ℤ e) (pos b)) % 2) 0

-- "the one of +B/2 and -B/2 that leaves an even quotient"
unfoldable pub even_half : ℕ → ℤ → ℤ
even_half b z = cond (leaves_even b z (pos (b / 2))) (pos (b / 2)) (neg_ℤ (pos (b / 2)))

unfoldable pub low : ℕ → ℤ → ℤ
low b z = cond (halfway b z) (even_half b z) (centre b z)

-- e is congruent to z, at most half the base in absolute value, and where it is half the base it leaves an even quotient: by `low-exactly` this is
-- the low digit and no other number
pub record LowDigit (b : ℕ) (z e : ℤ) : Type 0 where
  pub congruent : emod e b ≡ emod z b
  pub narrow : nat_abs e * 2 ≤ b
  pub even : nat_abs e * 2 ≡ b → leaves_even b z e ≡ true

unfoldable pub rest : ℕ → ℤ → ℤ
rest b z = quot_z (z -ℤ low b z) (pos b)

-- what is left after e digits
unfoldable pub rests : ℕ → ℕ → ℤ → ℤ
rests b zero z = z
rests b (suc e) z = rest b (rests b e z)

unfoldable pub digit : ℕ → ℕ → ℕ → ℤ → ℤ
digit b t e z = cond (ltb (suc e) t) (low b (rests b e z)) (rests b e z)

unfoldable pub split : ℕ → ℕ → List ℤ → List ℤ
split b t xs = flat t (λ e. map (digit b t e) xs)

unfoldable pub value : (b t : ℕ) → (ℕ → ℤ) → ℤ
value b zero f = pos 0
value b (suc t) f = value b t f +ℤ pos (b ^ t) *ℤ f t
