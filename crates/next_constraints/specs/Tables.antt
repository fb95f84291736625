-- The lists from which the constraints of the next instance are written, each formed once: Σ φ_i c_i by element of z, and by pair (i, j) the
-- products of challenges, the aggregate's a, and the diagonal.
use Rattle.std.specs.Prelude.{◌≡◌, cond, List, ℕ, ◌*◌, ◌≤◌, ◌<◌, eqb, length, ℤ}
use Rattle.algebra.specs.Sum.{sum}
use Rattle.algebra.specs.Triangle.{pair}
use Rattle.ring.specs.Element.{R, el}
use Rattle.fold.specs.Sizes.{pairs}
use Rattle.fold.specs.Messages.{aggregate}
use Rattle.fold.specs.NextInstance.{product}

-- the four lists have room
pub record TableRoom (d n r : ℕ) (folded products aggregated_a diagonal : List ℤ) : Type 0 where
  pub folded-length : n * d ≤ length folded
  pub products_length : pairs r * d ≤ length products
  pub aggregate-a-length : pairs r * d ≤ length aggregated_a
  pub diagonal_length : pairs r * d ≤ length diagonal

-- and hold what the constraints are made of
pub record Tables (d n r K L w : ℕ) (whole constant_terms projections ψ ω α δ c : List ℤ) (folded products aggregated_a diagonal : List ℤ) : Type 0 where
  pub folded-is : (k : ℕ) → k < n
      → el d folded k ≡ sum (R d) r (λ i. (R d).mul ((aggregate d n r K L w whole constant_terms projections ψ ω α δ).φ i k) (el d c i))
  pub products_is : (i j : ℕ) → i ≤ j → j < r → el d products (pair r i j) ≡ (R d).neg (product d (el d c) i j)
  pub aggregate-a-is : (i j : ℕ) → i ≤ j → j < r → el d aggregated_a (pair r i j) ≡ (aggregate d n r K L w whole constant_terms projections ψ ω α δ).a i j
  pub diagonal_is : (i j : ℕ) → i ≤ j → j < r → el d diagonal (pair r i j) ≡ cond (eqb i j) (R d).one (R d).zero
