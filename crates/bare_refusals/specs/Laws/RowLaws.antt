-- The rows of pairs of a constraint: where row i starts, and the elements after its first; and where constraint k starts.
use Rattle.std.specs.Prelude.{◌≡◌, List, ℕ, suc, ◌+◌, ◌-◌, ◌*◌, ◌≤◌, ◌<◌, ℤ}
use Rattle.std.proofs.Common.{sym, ap, ◌∙◌, mul-le-mul, mul-le-mul_right, add-one, arith}
use Rattle.algebra.specs.Triangle.{start, pair, pairs-count}
use Rattle.algebra.specs.Laws.TriangleLaws.{start-suc, start_mono}
use Rattle.ring.specs.Element.{R, el, every, same}
use Rattle.ring.specs.Laws.ElementEquality.{every_cong}
use Rattle.ring.specs.Laws.ElementPlaces.{block-before}
use Rattle.fold.specs.Sizes.{pairs, function_size}
use Rattle.fold.specs.Known.Facts.{Shaped}
use Rattle.fold.specs.Laws.SizeBounds.{function_size-bound}

-- place of the pair (i, i + 1 + k), from the start of row i
pub pair-after : (r i k : ℕ) {at : ℕ} → at ≡ start (λ k. r - k) i → at + 1 + k ≡ pair r i (suc i + k)
unfolding pair
pair-after r i k e = omega (arith, e)

-- row i ends within the pairs
pub row_within : (r i : ℕ) {at : ℕ} → i < r → at ≡ start (λ k. r - k) i → at + 1 + (r - 1 - i) ≤ pairs r
unfolding pairs pairs-count
row_within r i h e = omega (arith, e, start_mono (λ k. r - k) i r h)

pub row_next : (r i : ℕ) {at : ℕ} → at ≡ start (λ k. r - k) i → at + (r - i) ≡ start (λ k. r - k) (i + 1)
row_next r i e = rw add-one (ap (λ (x : ℕ). x + (r - i)) e ∙ sym (start-suc (λ k. r - k) i))

-- the elements after the first of row i
pub zero_row : (d r i : ℕ) (xs : List ℤ) {at : ℕ} → at ≡ start (λ k. r - k) i
    → every (r - 1 - i) (λ k. same d (el d xs (at + 1 + k)) (R d).zero)
    ≡ every (r - suc i) (λ k. same d (el d xs (pair r i (suc i + k))) (R d).zero)
zero_row d r i xs {at} e =
    let count : r - 1 - i ≡ r - suc i = omega arith in
    ap (λ (m : ℕ). every m (λ k. same d (el d xs (at + 1 + k)) (R d).zero)) count
    ∙ every_cong (r - suc i) _ _ (λ k _. ap (λ (p : ℕ). same d (el d xs p) (R d).zero) (pair-after r i k e))

-- constraint k of those that stand `step` numbers apart
pub constraint-within : (step count k : ℕ) {at len : ℕ} → k < count → at ≡ k * step → len ≡ count * step → at + step ≤ len
constraint-within step count k h e size = omega (arith, e, size, block-before step k count h)

-- a constraint holds its pairs
pub pairs_in_whole : (d n r : ℕ) {size : ℕ} → size ≡ function_size n r → pairs r * d ≤ (size + 1) * d
unfolding function_size
pairs_in_whole d n r e = mul-le-mul_right d (omega (arith, e))

pub pairs_in_term : (d n r : ℕ) {size : ℕ} → size ≡ function_size n r → pairs r * d ≤ size * d + 1
unfolding function_size
pairs_in_term d n r {size} e =
    let few : pairs r ≤ size = omega (arith, e) in
    omega (arith, mul-le-mul_right d few)

-- numbers of a function's elements
pub step_small : {d n r size : ℕ} → Shaped d n r → size ≡ function_size n r → (size ≤ 4232) × (size * d ≤ 4232 * 64) × ((size + 1) * d ≤ 4233 * 64)
step_small {d} {n} {r} {size} shaped e =
    let small : size ≤ 4232 = omega (arith, e, function_size-bound n r shaped.rank-small shaped.parts-small) in
    let more : size + 1 ≤ 4233 = omega (arith, small) in
    (small, mul-le-mul small shaped.degree.small, mul-le-mul more shaped.degree.small)
