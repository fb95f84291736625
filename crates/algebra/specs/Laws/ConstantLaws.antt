-- The constants of 𝓚[X]/(X^d + 1): `constant` is a homomorphism of rings from 𝓚, and a product by a constant multiplies each coefficient.
use Rattle.std.specs.Prelude.{◌≡◌, ℕ, zero, suc, ◌<◌}
use Rattle.std.proofs.Common.{sym, ap, ◌∙◌}
use Rattle.algebra.specs.CommRing.{CommRing}
use Rattle.algebra.specs.Laws.RingLaws.{mul-zero}
use Rattle.algebra.specs.Vec.{Vec}
use Rattle.algebra.specs.Laws.VecLaws.{ext}
use Rattle.algebra.specs.Polynomial.{coeff, zeros, constant, plus, scale, times}
use Rattle.algebra.specs.Laws.PolynomialLaws.{coeff-zero, coeff-constant, coeff-constant-suc, coeff-add, coeff-scale}
use Rattle.algebra.specs.Laws.PolynomialLaws.{times-scale, times-one, times_comm}

module _ (𝓚 : CommRing) where
  infixl 65 ◌⊕◌
  infixl 70 ◌⊗◌
  infix 75 ⊖◌
  open 𝓚 use {Carrier as K, zero as 𝟘, one as 𝟙, add as ◌⊕◌, mul as ◌⊗◌, neg as ⊖◌}
  open 𝓚 use {add-zero, mul-one}

  pub constant-zero : (d : ℕ) → constant 𝓚 d 𝟘 ≡ zeros 𝓚 d
  constant-zero d = ext 𝟘 _ _ entry
    where
      entry : (k : ℕ) → k < d → coeff 𝓚 (constant 𝓚 d 𝟘) k ≡ coeff 𝓚 (zeros 𝓚 d) k
      entry zero h = simp (coeff-constant, coeff-zero)
      entry (suc k) h = simp (coeff-constant-suc, coeff-zero)

  pub constant-add : (d : ℕ) (a b : K) → constant 𝓚 d (a ⊕ b) ≡ plus 𝓚 (constant 𝓚 d a) (constant 𝓚 d b)
  constant-add d a b = ext 𝟘 _ _ entry
    where
      entry : (k : ℕ) → k < d → coeff 𝓚 (constant 𝓚 d (a ⊕ b)) k ≡ coeff 𝓚 (plus 𝓚 (constant 𝓚 d a) (constant 𝓚 d b)) k
      entry zero h = simp (coeff-constant, coeff-add)
      entry (suc k) h = simp (coeff-constant-suc, coeff-add, add-zero)

  scale-constant : (d : ℕ) (c a : K) → scale 𝓚 c (constant 𝓚 d a) ≡ constant 𝓚 d (c ⊗ a)
  scale-constant d c a = ext 𝟘 _ _ entry
    where
      entry : (k : ℕ) → k < d → coeff 𝓚 (scale 𝓚 c (constant 𝓚 d a)) k ≡ coeff 𝓚 (constant 𝓚 d (c ⊗ a)) k
      entry zero h = simp (coeff-constant, coeff-scale)
      entry (suc k) h = simp (coeff-constant-suc, coeff-scale, mul-zero)

  -- c · u = u · (c · 1) = c · (u · 1)
  pub constant-times : {d : ℕ} (c : K) (u : Vec K d) → times 𝓚 (constant 𝓚 d c) u ≡ scale 𝓚 c u
  constant-times {d} c u =
      times_comm 𝓚 (constant 𝓚 d c) u
      ∙ ap (times 𝓚 u) (ap (constant 𝓚 d) (sym (mul-one c)) ∙ sym (scale-constant d c 𝟙))
      ∙ times-scale 𝓚 u c (constant 𝓚 d 𝟙)
      ∙ ap (scale 𝓚 c) (times-one 𝓚 u)

  pub constant-mul : (d : ℕ) (a b : K) → constant 𝓚 d (a ⊗ b) ≡ times 𝓚 (constant 𝓚 d a) (constant 𝓚 d b)
  constant-mul d a b = sym (constant-times a (constant 𝓚 d b) ∙ scale-constant d a b)

  pub coeff-constant-mul : {d : ℕ} (c : K) (u : Vec K d) (k : ℕ) → coeff 𝓚 (times 𝓚 (constant 𝓚 d c) u) k ≡ c ⊗ coeff 𝓚 u k
  coeff-constant-mul c u k = ap (λ w. coeff 𝓚 w k) (constant-times c u) ∙ coeff-scale 𝓚 c u k
