-- The conjugation of 𝓚[X]/(X^d + 1) is a homomorphism of rings.
use Rattle.std.specs.Prelude.{◌≡◌, ℕ, zero, suc, ◌-◌, ◌<◌}
use Rattle.std.proofs.Math.Path.{sym, ap}
use Rattle.std.proofs.Common.{◌∙◌, arith}
use Rattle.algebra.specs.CommRing.{CommRing}
use Rattle.algebra.specs.Laws.RingLaws.{neg-neg, neg-zero, mul-neg}
use Rattle.algebra.specs.Vec.{Vec}
use Rattle.algebra.specs.Laws.VecLaws.{ext}
use Rattle.algebra.specs.Laws.PolynomialLaws.{Linear, Linear-times}
use Rattle.algebra.specs.Polynomial.{coeff, constant, scale, times_x, times}
use Rattle.algebra.specs.Laws.PolynomialLaws.{coeff-constant-suc, coeff-scale, coeff-times_x-suc}
use Rattle.algebra.proofs.Laws.TimesXLaws.{coeff-times_x-zero}
use Rattle.algebra.specs.Laws.PolynomialLaws.{times-plus, times-scale, times-times_x, times-one, times_comm}
use Rattle.algebra.specs.Conjugation.{conjugate}
use Rattle.algebra.proofs.Laws.ConjugationLaws.{coeff-conjugate-zero, coeff-conjugate, conjugate-add, conjugate-conjugate}

module _ (𝓚 : CommRing) where
  infix 75 ⊖◌
  open 𝓚 use {Carrier as K, zero as 𝟘, one as 𝟙, neg as ⊖◌}

  pub conjugate-constant : (d : ℕ) (c : K) → conjugate 𝓚 (constant 𝓚 d c) ≡ constant 𝓚 d c
  conjugate-constant d c = ext 𝟘 _ _ entry
    where
      entry : (k : ℕ) → k < d → coeff 𝓚 (conjugate 𝓚 (constant 𝓚 d c)) k ≡ coeff 𝓚 (constant 𝓚 d c) k
      entry zero h = coeff-conjugate-zero 𝓚 _ h
      entry (suc k) h =
          let next : d - suc k ≡ suc (d - suc (suc k)) = omega arith in
          coeff-conjugate 𝓚 _ (suc k) (omega arith) h ∙ rw next (simp (coeff-constant-suc, neg-zero))

  pub conjugate-scale : {d : ℕ} (c : K) (u : Vec K d) → conjugate 𝓚 (scale 𝓚 c u) ≡ scale 𝓚 c (conjugate 𝓚 u)
  conjugate-scale {d} c u = ext 𝟘 _ _ entry
    where
      entry : (k : ℕ) → k < d → coeff 𝓚 (conjugate 𝓚 (scale 𝓚 c u)) k ≡ coeff 𝓚 (scale 𝓚 c (conjugate 𝓚 u)) k
      entry zero h = simp (coeff-scale, coeff-conjugate-zero)
      entry (suc k) h =
          let positive : 0 < suc k = omega arith in
          simp (coeff-scale, coeff-conjugate, mul-neg)

  -- the last coefficient of σ(X · u)
  conjugate-times_x-last : {d : ℕ} (u : Vec K d) → 0 < d → coeff 𝓚 (conjugate 𝓚 (times_x 𝓚 u)) (d - 1) ≡ ⊖ coeff 𝓚 u 0
  conjugate-times_x-last {d = zero} u h = absurd (omega arith)
  conjugate-times_x-last {d = suc zero} u h = coeff-conjugate-zero 𝓚 _ h ∙ coeff-times_x-zero 𝓚 u h
  conjugate-times_x-last {d = suc (suc n)} u h =
      let first : suc (suc n) - (suc (suc n) - 1) ≡ 1 = omega arith in
      coeff-conjugate 𝓚 _ (suc (suc n) - 1) (omega arith) (omega arith)
      ∙ ap (λ k. ⊖ coeff 𝓚 (times_x 𝓚 u) k) first
      ∙ ap ⊖◌ (coeff-times_x-suc 𝓚 u 0 (omega arith))

  -- X · σ(X · u) = σ(u), so σ sends X to its inverse
  pub times_x-conjugate : {d : ℕ} (u : Vec K d) → times_x 𝓚 (conjugate 𝓚 (times_x 𝓚 u)) ≡ conjugate 𝓚 u
  times_x-conjugate {d} u = ext 𝟘 _ _ entry
    where
      entry : (k : ℕ) → k < d → coeff 𝓚 (times_x 𝓚 (conjugate 𝓚 (times_x 𝓚 u))) k ≡ coeff 𝓚 (conjugate 𝓚 u) k
      entry zero h =
          coeff-times_x-zero 𝓚 _ h ∙ ap ⊖◌ (conjugate-times_x-last u h) ∙ neg-neg 𝓚 _ ∙ sym (coeff-conjugate-zero 𝓚 u h)
      entry (suc zero) h =
          let positive : 0 < d = omega arith in
          coeff-times_x-suc 𝓚 _ 0 h
          ∙ coeff-conjugate-zero 𝓚 _ positive
          ∙ coeff-times_x-zero 𝓚 u positive
          ∙ sym (coeff-conjugate 𝓚 u 1 (omega arith) h)
      entry (suc (suc k)) h =
          let next : d - suc k ≡ suc (d - suc (suc k)) = omega arith in
          coeff-times_x-suc 𝓚 _ (suc k) h
          ∙ coeff-conjugate 𝓚 _ (suc k) (omega arith) (omega arith)
          ∙ ap (λ j. ⊖ coeff 𝓚 (times_x 𝓚 u) j) next
          ∙ ap ⊖◌ (coeff-times_x-suc 𝓚 u (d - suc (suc k)) (omega arith))
          ∙ sym (coeff-conjugate 𝓚 u (suc (suc k)) (omega arith) h)

  -- w ↦ σ(u · σ(w)) is linear and commutes with X, so it is the product by its value at 1, which is σ(u)
  through : {d : ℕ} → Vec K d → Vec K d → Vec K d
  through u w = conjugate 𝓚 (times 𝓚 u (conjugate 𝓚 w))

  through_linear : {d : ℕ} (u : Vec K d) → Linear 𝓚 (through u)
  unfolding through
  through_linear u =
      record {
        plus_law = λ v w. rw (conjugate-add, times-plus, conjugate-add);
        scale_law = λ c v. rw (conjugate-scale, times-scale, conjugate-scale);
        times_x_law = λ v. sym (times_x-conjugate _) ∙ rw (← times-times_x, times_x-conjugate);
      }

  through-product : {d : ℕ} (u w : Vec K d) → through u w ≡ times 𝓚 w (conjugate 𝓚 u)
  unfolding through
  through-product {d} u w =
      ap (through u) (sym (times-one 𝓚 w))
      ∙ Linear-times 𝓚 (through_linear u) w (constant 𝓚 d 𝟙)
      ∙ rw (conjugate-constant, times-one)

  pub conjugate-mul : {d : ℕ} (u v : Vec K d) → conjugate 𝓚 (times 𝓚 u v) ≡ times 𝓚 (conjugate 𝓚 u) (conjugate 𝓚 v)
  unfolding through
  conjugate-mul u v = (rw conjugate-conjugate at (through-product u (conjugate 𝓚 v))) ∙ times_comm 𝓚 _ _
