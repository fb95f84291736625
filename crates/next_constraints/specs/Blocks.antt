-- A table of elements as the numbers that stand for it, and an element's digits each in its row.
--     numbers       the numbers of a table's elements, one element after the other
--     digit_row      row j of digit e of element i of a list
use Rattle.std.specs.Prelude.{cond, ℕ, eqb, ℤ}
use mathlib.Core.List.{List, flat_map}
use Rattle.ring.specs.Element.{R, el, coeffs}
use Rattle.fold.specs.NextInstance.{power}
use Rattle.next_constraints.specs.declared.blocks.Digits.{Digits}

unfoldable pub numbers : (d : ℕ) → List (R d).Carrier → List ℤ
numbers d table = flat_map (coeffs d) table

unfoldable pub digit_row : (d : ℕ) → Digits → (xs : List ℤ) (i e j : ℕ) → (R d).Carrier
digit_row d digits xs i e j = cond (eqb j digits.row) ((R d).mul (el d xs i) (power d digits.base e)) (R d).zero
