-- The sixty-four numbers of an element, as a loop that fills them makes them: `tab 64 (upto d f (pos 0))`, with number f k at each
-- place k below d and zeros past it.
--     array-fill                    any element in that form
--     array-el .. array-conjugate   that form for each operation, the numbers given as the leaves of modulus.rt compute them
--     array-zero, array-number, array-indeterminate  the constants, as arrays of which one place is set
use Rattle.std.specs.Prelude.{◌≡◌, ℕ, zero, suc, ◌+◌, ◌-◌, ◌*◌, ◌<◌, Bool, true, false, ◌≢◌, List, get_or, set, replicate, ℤ, pos, negsuc, ◌+ℤ◌, ◌*ℤ◌, neg_ℤ, nat_lt, slice_index_or, slice_set}
use Rattle.std.proofs.Math.Path.{refl, sym, ap}
use Rattle.std.proofs.Common.{ap₂, ◌∙◌, ltb-true, ltb-false}
use native.Mathlib.Omega.{arith}
use Rattle.integers.specs.Lists.{tab, upto}
use Rattle.integers.specs.Laws.ListLaws.{tab_cong, tab_const, set-tab, upto-below, upto-above}
use Rattle.integers.specs.Laws.Identities.{neg_*ℤ, *ℤ_idl}
use Rattle.algebra.specs.Polynomial.{coeff, constant}
use Rattle.algebra.specs.Laws.PolynomialLaws.{coeff-zero, coeff-constant, coeff-constant-suc, coeff-add}
use Rattle.algebra.specs.Laws.PolynomialLaws.{coeff-times_x-suc}
use Rattle.algebra.proofs.Laws.TimesXLaws.{coeff-times_x-zero}
use Rattle.algebra.specs.Laws.ConstantLaws.{coeff-constant-mul}
use Rattle.algebra.specs.Laws.RingLaws.{neg-zero}
use Rattle.algebra.specs.Conjugation.{conjugate}
use Rattle.algebra.proofs.Laws.ConjugationLaws.{coeff-conjugate-zero, coeff-conjugate}
use Rattle.algebra.specs.Indeterminate.{indeterminate}
use Rattle.residues.specs.Modulus.{Zq, red, cent, centred}
use Rattle.residues.proofs.Laws.ModulusLaws.{red-zero, red-one, red-add, red-mul, red-neg, cent-red, centred_fixed}
use Rattle.ring.specs.Element.{R, lift, el, array, number}
use Rattle.ring.specs.Laws.ElementLaws.{coeff-lift, coeff-past}
use Rattle.ring.specs.Laws.ElementPlaces.{coeff-el}

cent-zero : cent Zq.zero ≡ pos 0
cent-zero = ap cent (sym red-zero) ∙ cent-red (pos 0) ∙ centred_fixed (omega arith)

cent-one : cent Zq.one ≡ pos 1
cent-one = ap cent (sym red-one) ∙ cent-red (pos 1) ∙ centred_fixed (omega arith)

-- the numbers of σ(u), from those of u
unfoldable pub turned : ℕ → List ℤ → ℕ → ℤ
turned d xs zero = centred (slice_index_or xs 0 (pos 0))
turned d xs (suc k) = centred (negsuc 0 *ℤ slice_index_or xs (d - suc k) (pos 0))

pub turned_zero : (d : ℕ) (xs : List ℤ) → turned d xs 0 ≡ centred (slice_index_or xs 0 (pos 0))
unfolding turned
turned_zero d xs = refl

pub turned-suc : (d : ℕ) (xs : List ℤ) (k : ℕ) → 0 < k → turned d xs k ≡ centred (negsuc 0 *ℤ slice_index_or xs (d - k) (pos 0))
unfolding turned
turned-suc d xs zero h = let no : ⊥ = omega arith in absurd no
turned-suc d xs (suc k) h = refl

-- a product by -1 is the opposite
red-minus : (z : ℤ) → Zq.neg (red z) ≡ red (negsuc 0 *ℤ z)
red-minus z = sym (red-neg z) ∙ ap red (ap neg_ℤ (sym (*ℤ_idl z)) ∙ sym (neg_*ℤ (pos 1) z))

module _ (d : ℕ) where
  pub array-fill : (u : (R d).Carrier) (f : ℕ → ℤ) → ((k : ℕ) → k < d → cent (coeff Zq u k) ≡ f k) → array d u ≡ tab 64 (upto d f (pos 0))
  unfolding array
  array-fill u f h = tab_cong 64 (λ k. cent (coeff Zq u k)) (upto d f (pos 0)) (λ k _. entry k (nat_lt k d) refl)
    where
      entry : (k : ℕ) (t : Bool) → nat_lt k d ≡ t → cent (coeff Zq u k) ≡ upto d f (pos 0) k
      entry k true e = h k (ltb-true k d e) ∙ sym (upto-below d f (pos 0) k (ltb-true k d e))
      entry k false e = ap cent (coeff-past d u k (ltb-false k d e)) ∙ cent-zero ∙ sym (upto-above d f (pos 0) k (ltb-false k d e))

  pub array-el : (xs : List ℤ) (p : ℕ) → array d (el d xs p) ≡ tab 64 (upto d (λ k. centred (slice_index_or xs (p * d + k) (pos 0))) (pos 0))
  array-el xs p = array-fill (el d xs p) _ (λ k l. ap cent (coeff-el d xs p k l) ∙ cent-red (slice_index_or xs (p * d + k) (pos 0)))

  pub array-add : (xs ys : List ℤ)
      → array d ((R d).add (lift d xs) (lift d ys)) ≡ tab 64 (upto d (λ k. centred (slice_index_or xs k (pos 0) +ℤ slice_index_or ys k (pos 0))) (pos 0))
  array-add xs ys = array-fill _ _ (λ k l. ap cent (entry k l) ∙ cent-red (slice_index_or xs k (pos 0) +ℤ slice_index_or ys k (pos 0)))
    where
      entry : (k : ℕ) → k < d → coeff Zq ((R d).add (lift d xs) (lift d ys)) k ≡ red (slice_index_or xs k (pos 0) +ℤ slice_index_or ys k (pos 0))
      entry k l =
          coeff-add Zq (lift d xs) (lift d ys) k
          ∙ ap₂ Zq.add (coeff-lift d xs k l) (coeff-lift d ys k l)
          ∙ sym (red-add (slice_index_or xs k (pos 0)) (slice_index_or ys k (pos 0)))

  pub array-scale : (c : ℤ) (xs : List ℤ)
      → array d ((R d).mul (number d c) (lift d xs)) ≡ tab 64 (upto d (λ k. centred (c *ℤ slice_index_or xs k (pos 0))) (pos 0))
  unfolding number
  array-scale c xs = array-fill _ _ (λ k l. ap cent (entry k l) ∙ cent-red (c *ℤ slice_index_or xs k (pos 0)))
    where
      entry : (k : ℕ) → k < d → coeff Zq ((R d).mul (number d c) (lift d xs)) k ≡ red (c *ℤ slice_index_or xs k (pos 0))
      entry k l =
          coeff-constant-mul Zq (red c) (lift d xs) k
          ∙ ap (Zq.mul (red c)) (coeff-lift d xs k l)
          ∙ sym (red-mul c (slice_index_or xs k (pos 0)))

  pub array-conjugate : 0 < d → (xs : List ℤ) → array d (conjugate Zq (lift d xs)) ≡ tab 64 (upto d (turned d xs) (pos 0))
  array-conjugate above xs = array-fill _ _ entry
    where
      entry : (k : ℕ) → k < d → cent (coeff Zq (conjugate Zq (lift d xs)) k) ≡ turned d xs k
      entry zero l =
          ap cent (coeff-conjugate-zero Zq (lift d xs) l ∙ coeff-lift d xs 0 l) ∙ cent-red (slice_index_or xs 0 (pos 0)) ∙ sym (turned_zero d xs)
      entry (suc k) l =
          let z : ℤ = get_or xs (d - suc k) (pos 0) in
          let lifted = coeff-lift d xs (d - suc k) (omega arith) in
          ap cent (coeff-conjugate Zq (lift d xs) (suc k) (omega arith) l ∙ ap Zq.neg lifted ∙ red-minus z)
          ∙ cent-red (negsuc 0 *ℤ z)
          ∙ sym (turned-suc d xs (suc k) (omega arith))

  -- ---- the constants

  pub array-zero : array d (R d).zero ≡ replicate 64 (pos 0)
  unfolding array
  array-zero = tab_cong 64 _ (λ _. pos 0) (λ k _. ap cent (coeff-zero Zq d k) ∙ cent-zero) ∙ tab_const 64 (pos 0)

  -- one number at place p, zeros elsewhere
  array-one-place : (u : (R d).Carrier) (p : ℕ) (v : ℤ) → p < 64 → v ≡ cent (coeff Zq u p)
      → ((k : ℕ) → k ≢ p → coeff Zq u k ≡ Zq.zero) → array d u ≡ slice_set (replicate 64 (pos 0)) p v
  unfolding array
  array-one-place u p v l e h =
      sym (ap (λ xs. set xs p v) (sym (tab_const 64 (pos 0)))
      ∙ set-tab 64 p (λ _. pos 0) (λ k. cent (coeff Zq u k)) v l e (λ k ne. sym (ap cent (h k ne) ∙ cent-zero)))

  pub array-number : 0 < d → (c : ℤ) → array d (number d c) ≡ slice_set (replicate 64 (pos 0)) 0 (centred c)
  unfolding number
  array-number above c = array-one-place (number d c) 0 (centred c) (omega arith)
      (sym (ap cent (coeff-constant Zq d (red c) above) ∙ cent-red c)) past
    where
      past : (k : ℕ) → k ≢ 0 → coeff Zq (constant Zq d (red c)) k ≡ Zq.zero
      past zero ne = absurd (ne refl)
      past (suc k) ne = coeff-constant-suc Zq d (red c) k

  pub array-one : 0 < d → array d (R d).one ≡ slice_set (replicate 64 (pos 0)) 0 (pos 1)
  unfolding number
  array-one above = ap (λ x. array d (constant Zq d x)) (sym red-one) ∙ array-number above (pos 1)
      ∙ ap (set (replicate 64 (pos 0)) 0) (centred_fixed {z = pos 1} (omega arith))

  pub array-indeterminate : 1 < d → array d (indeterminate Zq d) ≡ slice_set (replicate 64 (pos 0)) 1 (pos 1)
  unfolding indeterminate
  array-indeterminate above = array-one-place (indeterminate Zq d) 1 (pos 1) (omega arith)
      (sym (ap cent (coeff-times_x-suc Zq _ 0 above ∙ coeff-constant Zq d Zq.one (omega arith)) ∙ cent-one)) past
    where
      past : (k : ℕ) → k ≢ 1 → coeff Zq (indeterminate Zq d) k ≡ Zq.zero
      past zero ne =
          let last : d - 1 ≡ suc (d - 2) = omega arith in
          coeff-times_x-zero Zq _ (omega arith)
          ∙ ap Zq.neg (ap (coeff Zq (constant Zq d Zq.one)) last ∙ coeff-constant-suc Zq d Zq.one (d - 2))
          ∙ neg-zero Zq
      past (suc zero) ne = absurd (ne refl)
      past (suc (suc k)) ne = inside (nat_lt (suc (suc k)) d) refl
        where
          inside : (t : Bool) → nat_lt (suc (suc k)) d ≡ t → coeff Zq (indeterminate Zq d) (suc (suc k)) ≡ Zq.zero
          inside true e = coeff-times_x-suc Zq _ (suc k) (ltb-true (suc (suc k)) d e) ∙ coeff-constant-suc Zq d Zq.one k
          inside false e = coeff-past d _ (suc (suc k)) (ltb-false (suc (suc k)) d e)
