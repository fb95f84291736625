-- Products with one short operand, in natural numbers: what the kernels of src/short.rt make of arrays. The short operand lies reversed
-- in an array with its negacyclic copy, each number raised by 2^22 so that none is negative. That adds 2^22 times the sum of the
-- other operand's residues to every column, and `weight` takes it away again modulo q. No product then reaches 2^55, so that a column of
-- at most sixty-four summands is summed exactly.
use Rattle.std.specs.Prelude.{◌≡◌, ℕ, ◌+◌, ◌-◌, ◌*◌, ◌/◌, ◌%◌, ◌<◌, ◌≤◌, Bool, List, length, get_or, take, drop, ℤ, pos, ◌+ℤ◌, slice_index, slice_index_or, unsigned_abs}
use Rattle.integers.specs.Sums.{total}
use Rattle.residues.specs.Range.{all_within}
use Rattle.ring.specs.Product.{summand}

-- congruent to x modulo q = 2^32 - 99
unfoldable pub reduced : ℕ → ℕ
reduced x = x % 4294967296 + 99 * (x / 4294967296)

-- minus 2^22 times the sum of the residues, modulo q
unfoldable pub weight : ℕ → List ℕ → ℕ
weight d a = 4194304 * (274877900608 - total d (λ i. slice_index a i))

unfoldable pub short_column : ℕ → List ℕ → List ℕ → ℕ → ℕ → ℕ
short_column d a e c start = reduced (c + total d (summand a e start))

-- whether the d numbers of element p of a list are all below 2^22 in absolute value
unfoldable pub short : ℕ → List ℤ → ℕ → Bool
short d xs p = all_within 4194303 (take d (drop (p * d) xs))

-- the same, by index
pub record Short (d : ℕ) (xs : List ℤ) (p : ℕ) : Type 0 where
  pub below : (i : ℕ) → i < d → unsigned_abs (slice_index_or xs (p * d + i) (pos 0)) < 4194304

-- 2^22 + x, for x above -2^22
unfoldable pub lifted : ℤ → ℕ
lifted x = unsigned_abs (pos 4194304 +ℤ x)

-- the last n numbers of element p, raised and reversed, from place 1 on, and their negatives raised d places further
pub record Raised (d : ℕ) (xs : List ℤ) (p n : ℕ) (e : List ℕ) : Type 0 where
  pub size : length e ≡ 129
  pub zero : get_or e 0 0 ≡ 0
  pub front : (i : ℕ) → i < n → slice_index e (i + 1) ≡ lifted (slice_index_or xs (p * d + (d - 1 - i)) (pos 0))
  pub back : (i : ℕ) → i < n → slice_index e (d + i + 1) ≡ 8388608 - lifted (slice_index_or xs (p * d + (d - 1 - i)) (pos 0))

-- an array whose first 2 d + 1 numbers are small
unfoldable pub Narrow : ℕ → List ℕ → Type 0
Narrow d e = (j : ℕ) → j ≤ d + d → slice_index e j ≤ 8388608
