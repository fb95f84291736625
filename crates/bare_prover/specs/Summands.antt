-- The summands of a turn's two sums, as the loops form them from the lists.
use Rattle.std.specs.Prelude.{List, ℕ, ℤ}
use Rattle.algebra.specs.DotProduct.{inner}
use Rattle.ring.specs.Element.{R, el}
use Rattle.fold.specs.Statement.{part}

module _ (d n : ℕ) where
  -- "(<φ_j,s_i> + <φ_i,s_j>)c_j"
  unfoldable pub crossed_summand : (phi c s : List ℤ) (i j : ℕ) → (R d).Carrier
  crossed_summand phi c s i j =
      (R d).mul ((R d).add (inner (R d) n (part d n phi j) (part d n s i)) (inner (R d) n (part d n phi i) (part d n s j))) (el d c j)

  -- "<s_i,s_j>c_j"
  unfoldable pub earlier_summand : (c s : List ℤ) (i j : ℕ) → (R d).Carrier
  earlier_summand c s i j = (R d).mul (inner (R d) n (part d n s i) (part d n s j)) (el d c j)
