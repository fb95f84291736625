-- Digits of ring elements: recomposition in R gives the element back.
use Rattle.std.specs.Prelude.{◌≡◌, ℕ, zero, suc, ◌+◌, ◌*◌, ◌^◌, ◌<◌, ◌≤◌, List, length, get_or, drop, ℤ, pos, ◌*ℤ◌, slice_index_or}
use Rattle.std.proofs.Common.{sym, ap₂, ◌∙◌, arith}
use Rattle.std.proofs.Math.Path.{ap}
use Rattle.std.proofs.Math.Seq.{get_or-drop}
use Rattle.algebra.specs.Sum.{sum}
use Rattle.algebra.specs.Laws.SumLaws.{sum_cong}
use Rattle.algebra.specs.Polynomial.{coeff}
use Rattle.algebra.specs.Laws.ConstantLaws.{coeff-constant-mul}
use Rattle.algebra.proofs.Laws.Convolution.{coeff-sum}
use Rattle.integers.specs.Laws.FlatLaws.{block-fits}
use Rattle.residues.specs.Modulus.{Zq, red, cent, centred}
use Rattle.residues.proofs.Laws.ModulusLaws.{red-zero, red-add, red-mul, cent-red}
use Rattle.ring.specs.Element.{R, number, lift, el}
use Rattle.ring.specs.Laws.ElementLaws.{element-ext, coeff-lift}
use Rattle.ring.specs.Laws.ElementPlaces.{coeff-el}
use Rattle.residues.specs.Digits.{digit, split, value}
use Rattle.ring.specs.Joined.{joined}
use Rattle.residues.proofs.Laws.DigitLaws.{recompose, value_cong, get_d_split}

pub red-value : (b t : ℕ) (f : ℕ → ℤ) → red (value b t f) ≡ sum Zq t (λ e. Zq.mul (red (pos (b ^ e))) (red (f e)))
unfolding value sum
red-value b zero f = red-zero
red-value b (suc t) f =
    red-add (value b t f) (pos (b ^ t) *ℤ f t) ∙ ap₂ Zq.add (red-value b t f) (red-mul (pos (b ^ t)) (f t))

module _ (d b t : ℕ) where
  pub coeff-joined : (f : ℕ → (R d).Carrier) (k : ℕ)
      → coeff Zq (joined d b t f) k ≡ sum Zq t (λ e. Zq.mul (red (pos (b ^ e))) (coeff Zq (f e) k))
  unfolding joined number
  coeff-joined f k =
      coeff-sum Zq t (λ e. (R d).mul (number d (pos (b ^ e))) (f e)) k
      ∙ sum_cong Zq t _ _ (λ e h. coeff-constant-mul Zq (red (pos (b ^ e))) (f e) k)

  pub joined_cong : (f g : ℕ → (R d).Carrier) → ((e : ℕ) → e < t → f e ≡ g e) → joined d b t f ≡ joined d b t g
  unfolding joined
  joined_cong f g h = sum_cong (R d) t _ _ (λ e l. ap ((R d).mul (number d (pos (b ^ e)))) (h e l))

  -- each coefficient is recomposed by itself
  pub coeff-joined-lift : (F : ℕ → List ℤ) (k : ℕ) → k < d
      → coeff Zq (joined d b t (λ e. lift d (F e))) k ≡ red (value b t (λ e. get_or (F e) k (pos 0)))
  coeff-joined-lift F k h =
      coeff-joined (λ e. lift d (F e)) k
      ∙ sum_cong Zq t _ _ (λ e l. ap (Zq.mul (red (pos (b ^ e)))) (coeff-lift d (F e) k h))
      ∙ sym (red-value b t (λ e. get_or (F e) k (pos 0)))

-- ---- elements laid out in a list

module _ (d b t : ℕ) where
  -- digit e of an element is element `place e` of xs
  pub coeff-joined-el : (xs : List ℤ) (place : ℕ → ℕ) (k : ℕ) → k < d
      → coeff Zq (joined d b t (λ e. el d xs (place e))) k ≡ red (value b t (λ e. get_or xs (place e * d + k) (pos 0)))
  unfolding el
  coeff-joined-el xs place k h =
      coeff-joined-lift d b t (λ e. drop (place e * d) xs) k h
      ∙ ap red (value_cong b t _ _ (λ e l. get_or-drop (place e * d) xs k (pos 0)))

  pub cent-joined-el : (xs : List ℤ) (place : ℕ → ℕ) (k : ℕ) → k < d
      → cent (coeff Zq (joined d b t (λ e. el d xs (place e))) k) ≡ centred (value b t (λ e. get_or xs (place e * d + k) (pos 0)))
  cent-joined-el xs place k h = ap cent (coeff-joined-el xs place k h) ∙ cent-red (value b t (λ e. get_or xs (place e * d + k) (pos 0)))

  -- the digits of m elements: digit e of element p is element e * m + p
  module _ (m : ℕ) (xs : List ℤ) (whole : length xs ≡ m * d) where
    get_d_split-el : (e p k : ℕ) → e < t → p < m → k < d
        → slice_index_or (split b t xs) ((e * m + p) * d + k) (pos 0) ≡ digit b t e (slice_index_or xs (p * d + k) (pos 0))
    get_d_split-el e p k h l i =
        let place : (e * m + p) * d + k ≡ e * length xs + (p * d + k) = omega (arith, ap (λ (n : ℕ). e * n) whole) in
        ap (λ (n : ℕ). get_or (split b t xs) n (pos 0)) place
        ∙ get_d_split b t xs e (p * d + k) h (omega (arith, whole, block-fits m d p k l i))

    pub joined-split : 2 ≤ b → 0 < t → (p : ℕ) → p < m → joined d b t (λ e. el d (split b t xs) (e * m + p)) ≡ el d xs p
    joined-split b>1 t>0 p l = element-ext d _ _ (λ k h.
        coeff-joined-el (split b t xs) (λ e. e * m + p) k h
        ∙ ap red (value_cong b t _ _ (λ e i. get_d_split-el e p k i l h) ∙ recompose b b>1 t (slice_index_or xs (p * d + k) (pos 0)) t>0)
        ∙ sym (coeff-el d xs p k h))
