-- The weighted projection rows for the five second functions together, as exact integers.
--     partial      Σ_{i < j} ω_ki row_i at coefficient y of element e
--     Summed       an accumulator that holds these sums
--     row-end      the elements of the five functions, from the sums over all rows
use Rattle.std.specs.Prelude.{◌≡◌, List, ℕ, zero, suc, ◌+◌, ◌*◌, ◌<◌, length, get_or, ℤ, pos, ◌+ℤ◌, ◌*ℤ◌}
use Rattle.constraints.specs.Laws.AccumulatorLaws.{Cell}

unfoldable pub partial : (d m w : ℕ) (projections ω : List ℤ) (e j y k : ℕ) → ℤ
partial d m w projections ω e zero y k = pos 0
partial d m w projections ω e (suc j) y k =
    partial d m w projections ω e j y k +ℤ (get_or ω (k * w + j) (pos 0) *ℤ get_or projections ((j * m + e) * d + y) (pos 0))

pub record Summed (d m w : ℕ) (projections ω : List ℤ) (e j : ℕ) (acc : List ℤ) : Type 0 where
  pub size : length acc ≡ 320
  pub cell : (y k : ℕ) → y < d → k < 5 → Cell acc (y * 5 + k) (partial d m w projections ω e j y k) j
