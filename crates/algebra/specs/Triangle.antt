-- Sums over the pairs i ≤ j below r, and the place of such a pair in the order of the loops `for i in 0..r, for j in i..r`.
--   start w i    where block i begins, if block k has w k entries
--   below r f    the sum of f i j over i < j < r
--   rows r f     the sum of f i j over i ≤ j < r, row after row
--   pair r i j   the place of the pair (i, j) in the order of rows, from 0 to pairs-count r - 1
use Rattle.std.specs.Prelude.{ℕ, zero, suc, ◌+◌, ◌-◌}
use Rattle.algebra.specs.CommRing.{CommRing}
use Rattle.algebra.specs.Sum.{sum}

-- the running sum of the widths
unfoldable pub start : (ℕ → ℕ) → ℕ → ℕ
start w zero = 0
start w (suc i) = start w i + w i

unfoldable pub pair : ℕ → ℕ → ℕ → ℕ
pair r i j = start (λ k. r - k) i + (j - i)

-- how many pairs there are
unfoldable pub pairs-count : ℕ → ℕ
pairs-count r = start (λ k. r - k) r

module _ (𝓡 : CommRing) where
  open 𝓡 use {Carrier}

  -- the sum over i < j < r
  unfoldable pub below : ℕ → (ℕ → ℕ → Carrier) → Carrier
  below r f = sum 𝓡 r (λ j. sum 𝓡 j (λ i. f i j))

  -- the sum over i ≤ j < r, in the order of the loops
  unfoldable pub rows : ℕ → (ℕ → ℕ → Carrier) → Carrier
  rows r f = sum 𝓡 r (λ i. sum 𝓡 (r - i) (λ k. f i (i + k)))
