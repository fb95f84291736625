-- Laws of what Garbage.antt defines.
use Rattle.std.specs.Prelude.{◌≡◌, ℕ, ◌+◌, ◌*◌, ◌<◌, ◌≤◌, ℤ, pos}
use Rattle.std.proofs.Common.{ap₂, ◌∙◌, mul-le-mul, zero-mul}
use Rattle.std.proofs.Math.Path.{ap}
use mathlib.Core.List.{List}
use Rattle.std.proofs.Math.Nat.{zero-add}
use native.Mathlib.Omega.{arith}
use Rattle.std.proofs.Math.ListN.{length, get_or}
use Rattle.integers.specs.Over.{over}
use Rattle.integers.specs.Flat.{flat}
use Rattle.integers.specs.Laws.FlatLaws.{flat_cong, length-flat, get_d_flat, block-fits}
use Rattle.algebra.specs.Sum.{sum}
use Rattle.algebra.specs.Laws.SumLaws.{sum_cong}
use Rattle.algebra.specs.DotProduct.{inner, garbage}
use Rattle.algebra.specs.Triangle.{pair}
use Rattle.ring.specs.Element.{R, Degree, lift, el, coeffs, array, number}
use Rattle.ring.specs.Laws.ElementLaws.{lift-array}
use Rattle.ring.specs.Laws.ElementPlaces.{block-before, el_cong, el_overs, el-flat-coeffs}
use Rattle.residues.specs.Digits.{split}
use Rattle.fold.specs.Known.Facts.{Shaped}
use Rattle.fold.specs.Sizes.{pairs, garbage_size}
use Rattle.fold.specs.Statement.{part}
use Rattle.fold.specs.Messages.{elements, times, half, h, h_digits, outer₂, u₂}
use Rattle.fold.proofs.Laws.WriterLaws.{length-elements, el-written, el-pairs, garbage_places, garbage_cong}
use Rattle.fold.specs.PairElements.{pair_elements}
use Rattle.constraints.specs.Laws.AggregatedLaws.{values-sum}
use Rattle.aggregation.specs.Garbage.{cross, part_product, square_elements, halved}

-- ---- one row of products

pub part-product-end : (d n : ℕ) (phi s : List ℤ) (j : ℕ) {out : List ℤ}
    → out ≡ array d (sum (R d) n (λ y. (R d).mul (el d phi (0 + y)) (el d s (j * n + y)))) → out ≡ array d (part_product d n phi s j)
unfolding part_product inner part
part-product-end d n phi s j out =
    out ∙ ap (array d) (sum_cong (R d) n _ _ (λ y _. ap (λ (p : ℕ). (R d).mul (el d phi p) (el d s (j * n + y))) (zero-add y)))

pub row_written : (d n r : ℕ) (φ : ℕ → ℕ → (R d).Carrier) (i : ℕ) (s old out : List ℤ) (a : ℕ) {phi next : List ℤ}
    → phi ≡ over old 0 (elements d n (φ i)) → next ≡ over out a (elements d r (part_product d n phi s))
    → next ≡ over out a (elements d r (cross d n φ s i))
unfolding elements part_product cross inner
row_written d n r φ i s old out a {phi} written next =
    next
    ∙ ap (over out a) (flat_cong r _ _ (λ j _. ap (coeffs d)
    (sum_cong (R d) n _ _ (λ y l. ap (λ u. (R d).mul u (part d n s j y)) (el-written d n (φ i) old written y l)))))

-- ---- all rows

module _ (d r : ℕ) (x : ℕ → ℕ → (R d).Carrier) (old : List ℤ) where
  square-entry : (i j k : ℕ) → i < r → j < r → k < d
      → get_or (square_elements d r x) ((i * r + j) * d + k) (pos 0) ≡ get_or (elements d r (x i)) (j * d + k) (pos 0)
  unfolding square_elements
  square-entry i j k a b g =
      let place : (i * r + j) * d + k ≡ i * (r * d) + (j * d + k) = omega arith in
      ap (λ (p : ℕ). get_or (flat r (λ k. elements d r (x k))) p (pos 0)) place
      ∙ get_d_flat r (r * d) (λ k. elements d r (x k)) (λ k _. length-elements d r (x k)) i (j * d + k) (pos 0) a (block-fits r d j k b g)

  length-square : length (square_elements d r x) ≡ r * r * d
  unfolding square_elements
  length-square = omega (arith, length-flat r (r * d) (λ k. elements d r (x k)) (λ k _. length-elements d r (x k)))

  pub el-square : {M : List ℤ} → M ≡ over old 0 (square_elements d r x) → (i j : ℕ) → i < r → j < r → el d M (i * r + j) ≡ x i j
  unfolding elements
  el-square written i j a b =
      let within : 0 * d ≤ length old = omega arith in
      let inside : i * r + j < r * r = block-fits r r i j a b in
      ap (λ (xs : List ℤ). el d xs (i * r + j)) written
      ∙ (rw (zero-mul d, zero-add (i * r + j)) at (el_overs d old (square_elements d r x) 0 (r * r) (i * r + j) within length-square inside))
      ∙ el_cong d (square_elements d r x) (elements d r (x i)) (i * r + j) j (λ k g. square-entry i j k a b g)
      ∙ el-flat-coeffs d r (x i) j b

-- ---- one h_ij

pub half-sum-end : (d r : ℕ) (M : List ℤ) (i j : ℕ) {one other both out : List ℤ} → Degree d
    → one ≡ array d (el d M (i * r + j)) → other ≡ array d (el d M (j * r + i))
    → both ≡ array d ((R d).add (lift d one) (lift d other))
    → out ≡ array d ((R d).mul (number d (pos 2147483599)) (lift d both))
    → out ≡ array d (halved d r M i j)
unfolding halved half
half-sum-end d r M i j degree is by sum out =
    out
    ∙ ap (λ u. array d ((R d).mul (number d (pos 2147483599)) u)) (ap (lift d) (values-sum d degree _ _ is by sum) ∙ lift-array d _ degree.small)

-- element (i, j) of all products has its place
pub square-place : (d r : ℕ) {i j len : ℕ} → i < r → j < r → r * r * d ≤ len → (i * r + j) * d + d ≤ len
square-place d r {i} {j} a b size = omega (arith, block-before d (i * r + j) (r * r) (block-fits r r i j a b))

pub square-small : (r : ℕ) {i j : ℕ} → i < r → j < r → i * r + j < r * r
square-small r {i} {j} a b = block-fits r r i j a b

-- that is the h of the message
halved-h : (d n r : ℕ) (φ : ℕ → ℕ → (R d).Carrier) (s old : List ℤ) {M : List ℤ} → M ≡ over old 0 (square_elements d r (cross d n φ s))
    → (i j : ℕ) → i < r → j < r → halved d r M i j ≡ h d n φ s i j
unfolding halved h garbage cross
halved-h d n r φ s old filled i j a b =
    ap₂ (λ u v. (R d).mul (half d) ((R d).add u v)) (el-square d r (cross d n φ s) old filled i j a b) (el-square d r (cross d n φ s) old filled j i b a)

-- ---- the digits

pub h-written : (d n r b₁ t₁ : ℕ) (φ : ℕ → ℕ → (R d).Carrier) (s old older : List ℤ) {M values out : List ℤ} {count : ℕ}
    → M ≡ over old 0 (square_elements d r (cross d n φ s))
    → pairs r * d ≤ length older
    → values ≡ over older 0 (pair_elements d r (halved d r M))
    → count ≡ pairs r
    → out ≡ flat count (λ e. split b₁ t₁ (coeffs d (el d values e)))
    → out ≡ h_digits d n r b₁ t₁ φ s
unfolding h_digits
h-written d n r b₁ t₁ φ s old older {M} {values} filled room held all out =
    out
    ∙ ap (λ (m : ℕ). flat m (λ e. split b₁ t₁ (coeffs d (el d values e)))) all
    ∙ garbage_places d r b₁ t₁ (el d values)
    ∙ garbage_cong d r b₁ t₁ _ _ (λ i j a b.
    ap (λ (xs : List ℤ). el d xs (pair r i j)) held ∙ el-pairs d r (halved d r M) older room i j a b
    ∙ halved-h d n r φ s old filled i j (omega arith) b)

-- ---- D·(h digits)

pub row-end : (d m : ℕ) (M x : List ℤ) (k : ℕ) {out : List ℤ} → out ≡ array d (sum (R d) m (λ e. (R d).mul (el d M (k * m + e)) (el d x (0 + e))))
    → out ≡ array d (times d m M k (el d x))
unfolding times inner
row-end d m M x k out = out ∙ ap (array d) (sum_cong (R d) m _ _ (λ e _. ap (λ (p : ℕ). (R d).mul (el d M (k * m + e)) (el d x p)) (zero-add e)))

pub outer-end : (d r κ₂ t₁ m : ℕ) (D x : List ℤ) {out : List ℤ} → m ≡ garbage_size r t₁ → out ≡ elements d κ₂ (λ k. times d m D k (el d x))
    → out ≡ u₂ d r κ₂ t₁ D x
unfolding u₂ outer₂
outer-end d r κ₂ t₁ m D x is out = out ∙ ap (λ (m : ℕ). elements d κ₂ (λ k. times d m D k (el d x))) is

-- the h digits are pairs(r) groups
pub digits-length : (d r t₁ : ℕ) {len count : ℕ} → count ≡ pairs r → len ≡ garbage_size r t₁ * d → len ≡ count * (t₁ * d)
unfolding garbage_size
digits-length d r t₁ is e = e ∙ rw is (omega arith)

-- all products have room in a local list
pub square-room : {d n r : ℕ} → Shaped d n r → r * r * d ≤ 16384
square-room shaped = mul-le-mul (mul-le-mul shaped.parts-small shaped.parts-small) shaped.degree.small
