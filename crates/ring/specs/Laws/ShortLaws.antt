-- Laws of products with one short operand.
--     Totalling, Sized             the loops of src/short.rt over both operands: raised_weight, columns
--     short-value                  a column is a coefficient of the product
use Rattle.std.specs.Prelude.{◌≡◌, ℕ, ◌+◌, ◌-◌, ◌*◌, ◌/◌, ◌%◌, ◌<◌, ◌≤◌, ◌⊎◌, List, get_or, ℤ, pos, neg_ℤ, slice_index, slice_index_or, refl}
use Rattle.std.proofs.Math.Path.{sym, ap, ap₂}
use Rattle.std.proofs.Common.{◌∙◌, inl, inr, mul-le-mul, Fits}
use Rattle.std.proofs.Math.Nat.{add-mul-mod_self_right}
use native.Mathlib.Omega.{arith}
use Rattle.std.specs.Int.{w64}
use Rattle.integers.specs.Sums.{total}
use Rattle.integers.specs.Laws.SumLaws.{total-add-one, total-bound}
use Rattle.algebra.specs.Laws.RingLaws.{zero-add}
use Rattle.algebra.specs.Sum.{sum}
use Rattle.algebra.specs.Laws.SumLaws.{sum_cong, sum-add, sum-mul}
use Rattle.algebra.specs.Polynomial.{coeff}
use Rattle.algebra.proofs.Laws.Convolution.{wrapped, wrapped_yes, wrapped-no, coeff-mul}
use Rattle.algebra.specs.Residue.{make}
use Rattle.algebra.specs.Laws.ResidueLaws.{make-eq, make-val, make-add, make-mul}
use Rattle.residues.specs.Modulus.{q, q-positive, Zq, red}
use Rattle.residues.proofs.Laws.ModulusLaws.{red-add, red-neg}
use Rattle.ring.specs.Element.{Degree, R, el}
use Rattle.ring.specs.Laws.ElementPlaces.{coeff-el}
use Rattle.ring.specs.Product.{summand, most, Residues}
use Rattle.ring.specs.Laws.ColumnLaws.{make-total}
use Rattle.ring.specs.Laws.ProductArrays.{le_or_lt}
use Rattle.ring.specs.Laws.ProductLaws.{left_factor, make-summand, coeff-small, red-pos}
use Rattle.ring.specs.Short.{lifted, reduced, weight, short_column, Short, Raised, Narrow}
use Rattle.ring.specs.Laws.ShortOperand.{lifted-small, lifted-is, lowered_is}

-- ---- raised_weight: the sum of the residues

pub record Totalling (d : ℕ) (a : List ℕ) (running i : ℕ) : Type 0 where
  pub within : i ≤ d
  pub is : running ≡ total i (λ j. slice_index a j)
  pub small : running ≤ i * 4294967197

pub totalling_start : (d : ℕ) (a : List ℕ) → Totalling d a 0 0
unfolding total
totalling_start d a = record { within = omega arith; is = refl; small = omega arith }

pub totalling_step : {d : ℕ} {a : List ℕ} {running i : ℕ} → Totalling d a running i → i < d → slice_index a i < 4294967197
    → Totalling d a (running + slice_index a i) (i + 1)
totalling_step {d} {a} {running} {i} r h small =
    record {
      within = omega arith;
      is = ap (λ t. t + slice_index a i) r.is ∙ sym (total-add-one i (λ j. slice_index a j));
      small = omega (arith, r.small);
    }

pub totalling_end : {d : ℕ} {a : List ℕ} {running i : ℕ} → Totalling d a running i → d ≤ i
    → 4194304 * (274877900608 - running) ≡ weight d a
unfolding weight
totalling_end {d} {a} {running} {i} r h =
    let all : i ≡ d = omega (arith, r.within) in
    ap (λ t. 4194304 * (274877900608 - t)) (r.is ∙ ap (λ t. total t (λ j. slice_index a j)) all)

weight-small : (d : ℕ) (a : List ℕ) → weight d a ≤ 1152921504606846976
unfolding weight
weight-small d a = omega arith

pub weight-bound : (d : ℕ) (a : List ℕ) {c : ℕ} → c ≡ weight d a → c ≤ 1152921504606846976
weight-bound d a e = omega (arith, e, weight-small d a)

-- ---- columns: exact sums

pub narrow-summand : (d : ℕ) (a e : List ℕ) (start i : ℕ) → Narrow d e → start ≤ d → i < d → summand a e start i ≤ 36028797010575360
unfolding summand Narrow
narrow-summand d a e start i narrow s h =
    let left : get_or a i 0 % 4294967296 ≤ 4294967295 = omega arith in
    let right : get_or e (start + i) 0 % 4294967296 ≤ 8388608 = omega (arith, narrow (start + i) (omega arith)) in
    mul-le-mul left right

pub record Sized (d c : ℕ) (f : ℕ → ℕ) (i running : ℕ) : Type 0 where
  pub within : i ≤ d
  pub is : running ≡ c + total i f
  pub small : (j : ℕ) → j < d → f j ≤ 36028797010575360

pub sized-start : (d c : ℕ) (f : ℕ → ℕ) → ((j : ℕ) → j < d → f j ≤ 36028797010575360) → Sized d c f 0 c
unfolding total
sized-start d c f h = record { within = omega arith; is = omega arith; small = h }

module _ {d c : ℕ} {f : ℕ → ℕ} {i running : ℕ} (r : Sized d c f i running) (d≤64 : d ≤ 64) (c-small : c ≤ 1152921504606846976) where
  pub sized-most : running ≤ 3458764513283670016
  sized-most = omega (arith, r.is, r.within, total-bound i 36028797010575360 f (λ j h. r.small j (omega (arith, r.within))))

  pub sized-step : i < d → Sized d c f (i + 1) (running + f i)
  sized-step h =
      record {
        within = omega arith;
        is = omega (arith, r.is, total-add-one i f);
        small = r.small;
      }

  pub sized-fits : i < d → Fits w64 (running + f i)
  sized-fits h = omega (arith, sized-most, r.small i h)

  pub sized-end : d ≤ i → running % 4294967296 + 99 * (running / 4294967296) ≡ reduced (c + total d f)
  unfolding reduced
  sized-end h =
      let all : i ≡ d = omega (arith, r.within) in
      ap (λ t. t % 4294967296 + 99 * (t / 4294967296)) (r.is ∙ ap (λ t. c + total t f) all)

pub short-most : (d : ℕ) (a e : List ℕ) (c : ℕ) → d ≤ 64 → Narrow d e → c ≤ 1152921504606846976
    → (start : ℕ) → start ≤ d → short_column d a e c start ≤ most
unfolding short_column reduced most
short-most d a e c d≤64 narrow c-small start s =
    omega (arith, total-bound d 36028797010575360 (summand a e start) (λ i h. narrow-summand d a e start i narrow s h))

-- ---- a column is a coefficient of the product

reduced-mod : (x : ℕ) → make q q-positive (reduced x) ≡ make q q-positive x
unfolding reduced q
reduced-mod x =
    let whole : x ≡ x % 4294967296 + 99 * (x / 4294967296) + x / 4294967296 * 4294967197 = omega arith in
    make-eq q q-positive _ _ (sym (ap (λ t. t % 4294967197) whole ∙ add-mul-mod_self_right _ (x / 4294967296) 4294967197))

module _ {d : ℕ} {x : (R d).Carrier} {xs : List ℤ} {p : ℕ} {a e : List ℕ} (degree : Degree d) (left : Residues d x d a)
    (short : Short d xs p) (right : Raised d xs p d e) where
  y : (R d).Carrier
  y = el d xs p

  unit : Zq.Carrier
  unit = make q q-positive 4194304

  number : ℕ → ℤ
  number j = slice_index_or xs (p * d + j) (pos 0)

  coefficient : (j : ℕ) → j < d → coeff Zq y j ≡ red (number j)
  unfolding y number
  coefficient j h = coeff-el d xs p j h

  make-front : (j : ℕ) → j < d → make q q-positive (lifted (number j)) ≡ Zq.add unit (coeff Zq y j)
  unfolding unit number
  make-front j h =
      sym (red-pos (lifted (number j)))
      ∙ ap red (lifted-is (number j) (short.below j h))
      ∙ red-add (pos 4194304) (number j)
      ∙ ap₂ Zq.add (red-pos 4194304) (sym (coefficient j h))

  make-back : (j : ℕ) → j < d → make q q-positive (8388608 - lifted (number j)) ≡ Zq.add unit (Zq.neg (coeff Zq y j))
  unfolding unit number
  make-back j h =
      sym (red-pos (8388608 - lifted (number j)))
      ∙ ap red (lowered_is (number j) (short.below j h))
      ∙ red-add (pos 4194304) (neg_ℤ (number j))
      ∙ ap₂ Zq.add (red-pos 4194304) (red-neg (number j) ∙ ap Zq.neg (sym (coefficient j h)))

  raised_factor : (k i : ℕ) → k < d → i < d → (i ≤ k) ⊎ (k < i)
      → make q q-positive (slice_index e (d - k + i) % 4294967296) ≡ Zq.add unit (wrapped Zq y k i)
  unfolding number
  raised_factor k i l h (inl b) =
      let place : d - k + i ≡ d - 1 - k + i + 1 = omega arith in
      let index : d - 1 - (d - 1 - k + i) ≡ k - i = omega arith in
      let value : get_or e (d - k + i) 0 ≡ lifted (number (k - i)) =
      ap (λ t. slice_index e t) place ∙ right.front (d - 1 - k + i) (omega arith) ∙ ap (λ t. lifted (number t)) index in
      let inside : k - i < d = omega arith in
      let whole : get_or e (d - k + i) 0 % 4294967296 ≡ lifted (number (k - i)) =
      omega (arith, value, lifted-small (number (k - i)) (short.below (k - i) inside)) in
      ap (make q q-positive) whole ∙ make-front (k - i) inside ∙ ap (Zq.add unit) (sym (wrapped_yes Zq y k i b))
  raised_factor k i l h (inr b) =
      let place : d - k + i ≡ d + (i - k - 1) + 1 = omega arith in
      let index : d - 1 - (i - k - 1) ≡ d + k - i = omega arith in
      let value : get_or e (d - k + i) 0 ≡ 8388608 - lifted (number (d + k - i)) =
      ap (λ t. slice_index e t) place ∙ right.back (i - k - 1) (omega arith) ∙ ap (λ t. 8388608 - lifted (number t)) index in
      let inside : d + k - i < d = omega arith in
      let whole : get_or e (d - k + i) 0 % 4294967296 ≡ 8388608 - lifted (number (d + k - i)) = omega (arith, value) in
      ap (make q q-positive) whole ∙ make-back (d + k - i) inside ∙ ap (Zq.add unit) (sym (wrapped-no Zq y k i b))

  residue_total : ℕ
  residue_total = total d (λ i. slice_index a i)

  make_residues : make q q-positive residue_total ≡ sum Zq d (coeff Zq x)
  unfolding residue_total
  make_residues = make-total d (λ i. slice_index a i) ∙ sum_cong Zq d _ _ (λ i h. ap (make q q-positive) (left.entry i h) ∙ make-val q q-positive (coeff Zq x i))

  total-small : residue_total ≤ 274877900608
  unfolding residue_total
  total-small =
      omega (
        arith,
        degree.small,
        total-bound d 4294967197 (λ i. slice_index a i) (λ i h. omega (arith, left.entry i h, coeff-small x i)),
      )

  -- the weight takes 2^22 times the residues away
  make-weight : Zq.add (make q q-positive (weight d a)) (Zq.mul unit (sum Zq d (coeff Zq x))) ≡ Zq.zero
  unfolding weight unit residue_total q
  make-weight =
      let whole : weight d a + 4194304 * residue_total ≡ 0 + 4194304 * 64 * 4294967197 = omega (arith, total-small) in
      ap (λ t. Zq.add (make q q-positive (weight d a)) (Zq.mul unit t)) (sym make_residues)
      ∙ ap (Zq.add (make q q-positive (weight d a))) (sym (make-mul q q-positive 4194304 residue_total))
      ∙ sym (make-add q q-positive (weight d a) (4194304 * residue_total))
      ∙ make-eq q q-positive _ _ (multiple whole)
    where
      multiple : {t : ℕ} → t ≡ 0 + 4194304 * 64 * 4294967197 → t % q ≡ 0 % q
      multiple e = ap (λ t. t % 4294967197) e ∙ add-mul-mod_self_right 0 (4194304 * 64) 4294967197

  pub short-value : (k : ℕ) → k < d → make q q-positive (short_column d a e (weight d a) (d - k)) ≡ coeff Zq ((R d).mul x (el d xs p)) k
  unfolding short_column y
  short-value k l =
      reduced-mod (weight d a + total d (summand a e (d - k)))
      ∙ make-add q q-positive (weight d a) (total d (summand a e (d - k)))
      ∙ ap (Zq.add (make q q-positive (weight d a))) column-sum
      ∙ rest (make q q-positive (weight d a)) (Zq.mul unit (sum Zq d (coeff Zq x))) (coeff Zq ((R d).mul x y) k)
      ∙ ap (λ t. Zq.add t (coeff Zq ((R d).mul x y) k)) make-weight
      ∙ zero-add Zq (coeff Zq ((R d).mul x y) k)
    where
      rest : (u v w : Zq.Carrier) → Zq.add u (Zq.add v w) ≡ Zq.add (Zq.add u v) w
      rest u v w = sym (Zq.add_assoc u v w)

      one-summand : (i : ℕ) → i < d
          → make q q-positive (summand a e (d - k) i) ≡ Zq.add (Zq.mul unit (coeff Zq x i)) (Zq.mul (coeff Zq x i) (wrapped Zq y k i))
      one-summand i h =
          make-summand a e (d - k) i
          ∙ ap₂ Zq.mul (left_factor left i h) (raised_factor k i l h (le_or_lt i k))
          ∙ Zq.mul-add (coeff Zq x i) unit (wrapped Zq y k i)
          ∙ ap (λ t. Zq.add t (Zq.mul (coeff Zq x i) (wrapped Zq y k i))) (Zq.mul_comm (coeff Zq x i) unit)

      column-sum : make q q-positive (total d (summand a e (d - k)))
          ≡ Zq.add (Zq.mul unit (sum Zq d (coeff Zq x))) (coeff Zq ((R d).mul x y) k)
      column-sum =
          make-total d (summand a e (d - k))
          ∙ sum_cong Zq d _ _ one-summand
          ∙ sum-add Zq d (λ i. Zq.mul unit (coeff Zq x i)) (λ i. Zq.mul (coeff Zq x i) (wrapped Zq y k i))
          ∙ ap₂ Zq.add (sym (sum-mul Zq d unit (coeff Zq x))) (sym (coeff-mul Zq x y k l))
