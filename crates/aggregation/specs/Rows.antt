-- Rows of five elements by value, and sums that such rows hold.
--     added, plus_product     the entries that the calls of src/rows.rt give
--     Canonical              the entries of a row are ring elements: centred, and zero past d
--     Sums                   a loop that adds the summands of five sums; entry k holds the sum of the first e summands F k
use Rattle.std.specs.Prelude.{◌≡◌, List, [], ℕ, get_or, ℤ}
use Rattle.integers.specs.Lists.{tab}
use Rattle.algebra.specs.Sum.{sum}
use Rattle.ring.specs.Element.{R, lift, array}

unfoldable pub added : (d : ℕ) (first second : List (List ℤ)) → ℕ → (R d).Carrier
added d first second k = (R d).add (lift d (get_or first k [])) (lift d (get_or second k []))

unfoldable pub plus_product : (d : ℕ) (sums row : List (List ℤ)) → (R d).Carrier → ℕ → (R d).Carrier
plus_product d sums row y k = (R d).add (lift d (get_or sums k [])) ((R d).mul (lift d (get_or row k [])) y)

pub record Canonical (d : ℕ) (row : List (List ℤ)) : Type 0 where
  pub is : row ≡ tab 5 (λ k. array d (lift d (get_or row k [])))

pub record Sums (d : ℕ) (F : ℕ → ℕ → (R d).Carrier) (e : ℕ) (sums : List (List ℤ)) : Type 0 where
  pub held : sums ≡ tab 5 (λ k. array d (sum (R d) e (F k)))
