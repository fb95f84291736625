-- A column of an array product is a coefficient of the product in R, and an accumulator holds the sum of the products added to it.
use Rattle.std.specs.Prelude.{◌≡◌, ℕ, ◌+◌, ◌-◌, ◌%◌, ◌<◌, ◌≤◌, ◌⊎◌, List, replicate, ℤ, pos, slice_index, slice_index_or, refl}
use Rattle.std.proofs.Math.Path.{sym, ap₂}
use Rattle.std.proofs.Common.{ap, ◌∙◌, inl, inr, arith, ltb→lt}
use Rattle.std.proofs.lemmas.List.{get_or-replicate}
use Rattle.integers.specs.Lists.{tab, upto}
use Rattle.algebra.specs.Laws.RingLaws.{zero-add}
use Rattle.algebra.specs.Sum.{sum}
use Rattle.algebra.specs.Laws.SumLaws.{sum_cong, sum-one-more}
use Rattle.algebra.specs.Polynomial.{coeff}
use Rattle.algebra.specs.Laws.PolynomialLaws.{coeff-add, coeff-zero}
use Rattle.algebra.proofs.Laws.Convolution.{wrapped, wrapped_yes, wrapped-no, coeff-mul}
use Rattle.algebra.specs.Residue.{make, neg}
use Rattle.algebra.specs.Laws.ResidueLaws.{make-val, make-add, make-mul, reduce-pos}
use Rattle.residues.specs.Modulus.{q, q-positive, Zq, red, cent, centred}
use Rattle.residues.proofs.Laws.ModulusLaws.{q-value, cent-red}
use Rattle.ring.specs.Element.{Degree, R, lift, el, array}
use Rattle.ring.specs.Laws.ElementArrays.{array-fill}
use Rattle.ring.specs.Laws.ElementPlaces.{el-zero}
use Rattle.ring.specs.Product.{summand, column, most, Residues, Extended, Room, Added, Gained, Holds}
use Rattle.ring.specs.Laws.ColumnLaws.{folded-mod, make-total}
use Rattle.ring.specs.Laws.ProductArrays.{le_or_lt}

-- ---- residues

pub red-pos : (n : ℕ) → red (pos n) ≡ make q q-positive n
unfolding red
red-pos n = reduce-pos q q-positive n

pub coeff-small : {d : ℕ} (u : (R d).Carrier) (i : ℕ) → (coeff Zq u i).val < 4294967197
coeff-small u i = omega (arith, q-value, ltb→lt (coeff Zq u i).val q (coeff Zq u i).ok)

pub residues_small : {d : ℕ} {x : (R d).Carrier} {a : List ℕ} → Residues d x d a → (i : ℕ) → i < d → slice_index a i < 4294967197
residues_small {d} {x} left i h = omega (arith, left.entry i h, coeff-small x i)

-- ---- a column is a coefficient of the product

make-neg : (x : Zq.Carrier) → make q q-positive (q - x.val) ≡ Zq.neg x
unfolding neg
make-neg x = refl

pub make-summand : (a e : List ℕ) (start i : ℕ) → make q q-positive (summand a e start i)
    ≡ Zq.mul (make q q-positive (slice_index a i % 4294967296)) (make q q-positive (slice_index e (start + i) % 4294967296))
unfolding summand
make-summand a e start i = make-mul q q-positive (slice_index a i % 4294967296) (slice_index e (start + i) % 4294967296)

pub left_factor : {d : ℕ} {x : (R d).Carrier} {a : List ℕ} → Residues d x d a → (i : ℕ) → i < d
    → make q q-positive (slice_index a i % 4294967296) ≡ coeff Zq x i
left_factor {d} {x} {a} left i h =
    let whole : slice_index_or a i 0 % 4294967296 ≡ (coeff Zq x i).val = omega (arith, left.entry i h, coeff-small x i) in
    ap (make q q-positive) whole ∙ make-val q q-positive (coeff Zq x i)

module _ {d : ℕ} {x y : (R d).Carrier} {a e : List ℕ} (left : Residues d x d a) (right : Extended d y d e) where
  right_factor : (k i : ℕ) → k < d → i < d → (i ≤ k) ⊎ (k < i)
      → make q q-positive (slice_index e (d - k + i) % 4294967296) ≡ wrapped Zq y k i
  right_factor k i l h (inl b) =
      let place : d - k + i ≡ d - 1 - k + i + 1 = omega arith in
      let index : d - 1 - (d - 1 - k + i) ≡ k - i = omega arith in
      let value : slice_index_or e (d - k + i) 0 ≡ (coeff Zq y (k - i)).val =
      ap (λ t. slice_index e t) place ∙ right.front (d - 1 - k + i) (omega arith) ∙ ap (λ t. (coeff Zq y t).val) index in
      let whole : slice_index_or e (d - k + i) 0 % 4294967296 ≡ (coeff Zq y (k - i)).val = omega (arith, value, coeff-small y (k - i)) in
      ap (make q q-positive) whole ∙ make-val q q-positive (coeff Zq y (k - i)) ∙ sym (wrapped_yes Zq y k i b)
  right_factor k i l h (inr b) =
      let place : d - k + i ≡ d + (i - k - 1) + 1 = omega arith in
      let index : d - 1 - (i - k - 1) ≡ d + k - i = omega arith in
      let value : slice_index_or e (d - k + i) 0 ≡ q - (coeff Zq y (d + k - i)).val =
      ap (λ t. slice_index e t) place ∙ right.back (i - k - 1) (omega arith) ∙ ap (λ t. q - (coeff Zq y t).val) index in
      let whole : slice_index_or e (d - k + i) 0 % 4294967296 ≡ q - (coeff Zq y (d + k - i)).val = omega (arith, value, q-value) in
      ap (make q q-positive) whole ∙ make-neg (coeff Zq y (d + k - i)) ∙ sym (wrapped-no Zq y k i b)

  pub column-value : (k : ℕ) → k < d → make q q-positive (column d a e (d - k)) ≡ coeff Zq ((R d).mul x y) k
  unfolding column
  column-value k l =
      folded-mod d (summand a e (d - k))
      ∙ make-total d (summand a e (d - k))
      ∙ sum_cong Zq d _ _ (λ i h. one-summand i h)
      ∙ sym (coeff-mul Zq x y k l)
    where
      one-summand : (i : ℕ) → i < d → make q q-positive (summand a e (d - k) i) ≡ Zq.mul (coeff Zq x i) (wrapped Zq y k i)
      one-summand i h = make-summand a e (d - k) i ∙ ap₂ Zq.mul (left_factor left i h) (right_factor k i l h (le_or_lt i k))

-- ---- an accumulator holds the sum of the products

pub holds-room : {d : ℕ} {u : (R d).Carrier} {n : ℕ} {acc : List ℕ} → Holds d u n acc → n ≤ 4096 → Room acc
unfolding most
holds-room r h = record { size = r.size; small = λ k b. omega (arith, r.small k b) }

pub gained : {d : ℕ} {x : (R d).Carrier} {col : ℕ → ℕ} {old new : List ℕ} → Added d col old new
    → ((k : ℕ) → k < d → make q q-positive (col (d - k)) ≡ coeff Zq x k) → Gained d x old new
gained {d} {x} {col} {old} sums columns =
    record {
      size = sums.size;
      value = λ k b. ap (make q q-positive) (sums.value k b)
          ∙ make-add q q-positive (slice_index old k) (col (d - k)) ∙ ap (Zq.add (make q q-positive (slice_index old k))) (columns k b);
      small = sums.small;
    }

pub holds-step : {d : ℕ} {x w : (R d).Carrier} {n : ℕ} {old new : List ℕ} → Holds d w n old → Gained d x old new
    → Holds d ((R d).add w x) (n + 1) new
holds-step {d} {x} {w} {n} {old} held sums =
    record {
      size = sums.size;
      small = λ k b. omega (arith, sums.small k b, held.small k b);
      value = λ k b. sums.value k b ∙ ap (λ t. Zq.add t (coeff Zq x k)) (held.value k b) ∙ sym (coeff-add Zq w x k);
    }

pub holds-start : {d : ℕ} → Degree d → Holds d (R d).zero 0 (replicate 64 0)
holds-start {d} degree =
    let zeros : (k : ℕ) → k < 64 → ◌≡◌ {A = ℕ} (slice_index (replicate 64 0) k) 0 = λ k b. get_or-replicate 64 k 0 0 b in
    record {
      size = refl;
      small = λ k b. omega (arith, zeros k b);
      value = λ k b. ap (make q q-positive) (zeros k (omega (arith, degree.small))) ∙ sym (coeff-zero Zq d k);
    }

pub holds-end : {d : ℕ} {u : (R d).Carrier} {n : ℕ} {acc : List ℕ} → Holds d u n acc
    → tab 64 (upto d (λ k. centred (pos (slice_index acc k))) (pos 0)) ≡ array d u
holds-end {d} {u} {n} {acc} r =
    sym (array-fill d u _ (λ k h. ap cent (sym (red-pos (slice_index acc k) ∙ r.value k h)) ∙ cent-red (pos (slice_index acc k))))

-- ---- the loop over the pairs of an inner product

abbrev pub pair : (d : ℕ) → List ℤ → ℕ → List ℤ → ℕ → ℕ → (R d).Carrier
pair d u p v s k = (R d).mul (el d u (p + k)) (el d v (s + k))

pub pairs_start : {d : ℕ} (f : ℕ → (R d).Carrier) → Degree d → Holds d (sum (R d) 0 f) 0 (replicate 64 0)
unfolding sum
pairs_start f degree = holds-start degree

pub pairs-step : {d : ℕ} (f : ℕ → (R d).Carrier) {k : ℕ} {old new : List ℕ} → Holds d (sum (R d) k f) k old → Gained d (f k) old new
    → Holds d (sum (R d) (k + 1) f) (k + 1) new
pairs-step {d} f {k} before sums = rw (sum-one-more (R d) k f) (holds-step before sums)

-- ---- a product is an inner product of one pair

pub one-pair : (d : ℕ) (a b : List ℤ) → sum (R d) 1 (pair d a 0 b 0) ≡ (R d).mul (lift d a) (lift d b)
unfolding sum
one-pair d a b = zero-add (R d) (pair d a 0 b 0 0) ∙ ap₂ (R d).mul (el-zero d a) (el-zero d b)
