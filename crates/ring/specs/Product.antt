-- How products in R are computed, in natural numbers: what the kernels of src/product.rt make of arrays of residues.
--     summand a e start i  summand i of a column: a_i times e_(start + i), each modulo 2^32
--     highs n f            the sum of the upper halves of the summands
--     folded n f           the lower halves, and 99 times the upper halves: congruent to the sum of the summands modulo q = 2^32 - 99
-- One operand of a product lies in an array as it is, the other one reversed and followed by its negacyclic copy, so that each coefficient
-- of the product is one column.
use Rattle.std.specs.Prelude.{◌≡◌, ℕ, ◌+◌, ◌-◌, ◌*◌, ◌/◌, ◌%◌, ◌<◌, ◌≤◌, List, length, slice_index}
use Rattle.integers.specs.Sums.{total}
use Rattle.algebra.specs.Polynomial.{coeff}
use Rattle.algebra.specs.Residue.{make}
use Rattle.residues.specs.Modulus.{q, q-positive, Zq}
use Rattle.ring.specs.Element.{R}

unfoldable pub summand : List ℕ → List ℕ → ℕ → ℕ → ℕ
summand a e start i = (slice_index a i % 4294967296) * (slice_index e (start + i) % 4294967296)

unfoldable pub highs : ℕ → (ℕ → ℕ) → ℕ
highs n f = total n (λ i. f i / 4294967296)

unfoldable pub folded : ℕ → (ℕ → ℕ) → ℕ
folded n f = (total n f - 4294967296 * highs n f) + 99 * highs n f

-- the column of the product of two arrays that starts at a place of e; column k starts at d - k
unfoldable pub column : ℕ → List ℕ → List ℕ → ℕ → ℕ
column d a e start = folded d (summand a e start)

-- the largest value of a column
unfoldable pub most : ℕ
most = 70368744177664

-- the first n coefficients of an element, in an array of residues
pub record Residues (d : ℕ) (u : (R d).Carrier) (n : ℕ) (a : List ℕ) : Type 0 where
  pub size : length a ≡ 64
  pub entry : (i : ℕ) → i < n → slice_index a i ≡ (coeff Zq u i).val

-- the last n coefficients of an element, reversed, from place 1 on, and their negatives d places further
pub record Extended (d : ℕ) (u : (R d).Carrier) (n : ℕ) (e : List ℕ) : Type 0 where
  pub size : length e ≡ 129
  pub front : (i : ℕ) → i < n → slice_index e (i + 1) ≡ (coeff Zq u (d - 1 - i)).val
  pub back : (i : ℕ) → i < n → slice_index e (d + i + 1) ≡ q - (coeff Zq u (d - 1 - i)).val

-- two columns, which start at two places of an array; `col` gives a column by its start
pub record TwoColumns (col : ℕ → ℕ) (start other x y : ℕ) : Type 0 where
  pub first : x ≡ col start
  pub second : y ≡ col other

-- an accumulator with room for one more column at each place
pub record Room (acc : List ℕ) : Type 0 where
  pub size : length acc ≡ 64
  pub small : (k : ℕ) → k < 64 → slice_index acc k ≤ 4096 * most

-- the columns of a product added to an accumulator; past column d - 1 its places stay small
pub record Added (d : ℕ) (col : ℕ → ℕ) (old new : List ℕ) : Type 0 where
  pub size : length new ≡ 64
  pub value : (k : ℕ) → k < d → slice_index new k ≡ slice_index old k + col (d - k)
  pub small : (k : ℕ) → k < 64 → slice_index new k ≤ slice_index old k + most

-- an element added to what an accumulator holds, up to multiples of q
pub record Gained (d : ℕ) (x : (R d).Carrier) (old new : List ℕ) : Type 0 where
  pub size : length new ≡ 64
  pub value : (k : ℕ) → k < d → make q q-positive (slice_index new k) ≡ Zq.add (make q q-positive (slice_index old k)) (coeff Zq x k)
  pub small : (k : ℕ) → k < 64 → slice_index new k ≤ slice_index old k + most

-- an accumulator after n products: it holds an element, up to multiples of q
pub record Holds (d : ℕ) (u : (R d).Carrier) (n : ℕ) (acc : List ℕ) : Type 0 where
  pub size : length acc ≡ 64
  pub small : (k : ℕ) → k < 64 → slice_index acc k ≤ n * most
  pub value : (k : ℕ) → k < d → make q q-positive (slice_index acc k) ≡ coeff Zq u k
