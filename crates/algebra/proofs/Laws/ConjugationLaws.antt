-- Laws of the conjugation of 𝓚[X]/(X^d + 1) and of the constant term: `ct-conjugate` is the law of SPECIFICATION 2.6.
use Rattle.std.specs.Prelude.{◌≡◌}
use Rattle.std.proofs.Common.{ap, ◌∙◌, arith}
use Prim.Native.Nat.{ℕ, zero, suc, ◌+◌, ◌-◌, ◌<◌}
use Rattle.algebra.specs.CommRing.{CommRing}
use Rattle.algebra.specs.Laws.RingLaws.{neg-neg, neg_distrib}
use Rattle.algebra.specs.Sum.{sum}
use Rattle.algebra.specs.Laws.SumLaws.{sum_cong}
use Rattle.algebra.specs.Vec.{Vec}
use Rattle.algebra.specs.Laws.VecLaws.{at-build, ext}
use Rattle.algebra.specs.Negacyclic.{Negacyclic}
use Rattle.algebra.specs.Polynomial.{coeff, constant, plus, times}
use Rattle.algebra.specs.Laws.PolynomialLaws.{times_comm, coeff-add}
use Rattle.algebra.proofs.Laws.Convolution.{wrapped, wrapped_yes, wrapped-no, coeff-mul, coeff-sum}
use Rattle.algebra.specs.Laws.ConstantLaws.{coeff-constant-mul}
use Rattle.algebra.specs.Conjugation.{reflected, conjugate, ct}

module _ (𝓚 : CommRing) where
  infixl 65 ◌⊕◌
  infixl 70 ◌⊗◌
  infix 75 ⊖◌
  open 𝓚 use {Carrier as K, zero as 𝟘, add as ◌⊕◌, mul as ◌⊗◌, neg as ⊖◌}
  open 𝓚 use {mul_comm}

  pub coeff-conjugate-zero : {d : ℕ} (u : Vec K d) → 0 < d → coeff 𝓚 (conjugate 𝓚 u) 0 ≡ coeff 𝓚 u 0
  unfolding conjugate reflected
  coeff-conjugate-zero {d} u h = at-build 𝟘 d (reflected 𝓚 u) h

  pub coeff-conjugate : {d : ℕ} (u : Vec K d) (k : ℕ) → 0 < k → k < d → coeff 𝓚 (conjugate 𝓚 u) k ≡ ⊖ coeff 𝓚 u (d - k)
  unfolding conjugate reflected
  coeff-conjugate u zero l h = absurd (omega arith)
  coeff-conjugate {d} u (suc k) l h = at-build 𝟘 d (reflected 𝓚 u) h

  pub conjugate-add : {d : ℕ} (u v : Vec K d) → conjugate 𝓚 (plus 𝓚 u v) ≡ plus 𝓚 (conjugate 𝓚 u) (conjugate 𝓚 v)
  conjugate-add {d} u v = ext 𝟘 _ _ entry
    where
      entry : (k : ℕ) → k < d → coeff 𝓚 (conjugate 𝓚 (plus 𝓚 u v)) k ≡ coeff 𝓚 (plus 𝓚 (conjugate 𝓚 u) (conjugate 𝓚 v)) k
      entry zero h = simp (coeff-add, coeff-conjugate-zero)
      entry (suc k) h =
          let positive : 0 < suc k = omega arith in
          simp (coeff-add, coeff-conjugate, neg_distrib)

  pub conjugate-conjugate : {d : ℕ} (u : Vec K d) → conjugate 𝓚 (conjugate 𝓚 u) ≡ u
  conjugate-conjugate {d} u = ext 𝟘 _ _ entry
    where
      entry : (k : ℕ) → k < d → coeff 𝓚 (conjugate 𝓚 (conjugate 𝓚 u)) k ≡ coeff 𝓚 u k
      entry zero h = simp coeff-conjugate-zero
      entry (suc k) h =
          let back : d - (d - suc k) ≡ suc k = omega arith in
          coeff-conjugate _ (suc k) (omega arith) h
          ∙ ap ⊖◌ (coeff-conjugate u (d - suc k) (omega arith) (omega arith))
          ∙ neg-neg 𝓚 _
          ∙ ap (coeff 𝓚 u) back

  pub ct-add : {d : ℕ} (u v : Vec K d) → ct 𝓚 (plus 𝓚 u v) ≡ ct 𝓚 u ⊕ ct 𝓚 v
  ct-add u v = coeff-add 𝓚 u v 0

  pub ct-sum : {d : ℕ} (n : ℕ) (f : ℕ → Vec K d) → ct 𝓚 (sum (Negacyclic 𝓚 d) n f) ≡ sum 𝓚 n (λ i. ct 𝓚 (f i))
  ct-sum n f = coeff-sum 𝓚 n f 0

  pub ct-constant-mul : {d : ℕ} (c : K) (u : Vec K d) → ct 𝓚 (times 𝓚 (constant 𝓚 d c) u) ≡ c ⊗ ct 𝓚 u
  ct-constant-mul c u = coeff-constant-mul 𝓚 c u 0

  wrapped-conjugate : {d : ℕ} (u : Vec K d) (k : ℕ) → k < d → wrapped 𝓚 (conjugate 𝓚 u) 0 k ≡ coeff 𝓚 u k
  wrapped-conjugate u zero h = wrapped_yes 𝓚 (conjugate 𝓚 u) 0 0 (omega arith) ∙ coeff-conjugate-zero u h
  wrapped-conjugate {d} u (suc k) h =
      let back : d - (d + 0 - suc k) ≡ suc k = omega arith in
      wrapped-no 𝓚 (conjugate 𝓚 u) 0 (suc k) (omega arith)
      ∙ ap ⊖◌ (coeff-conjugate u (d + 0 - suc k) (omega arith) (omega arith))
      ∙ neg-neg 𝓚 _
      ∙ ap (coeff 𝓚 u) back

  pub ct-conjugate : {d : ℕ} (u v : Vec K d) → 0 < d → ct 𝓚 (times 𝓚 (conjugate 𝓚 u) v) ≡ sum 𝓚 d (λ k. coeff 𝓚 u k ⊗ coeff 𝓚 v k)
  ct-conjugate {d} u v h =
      ap (ct 𝓚) (times_comm 𝓚 (conjugate 𝓚 u) v)
      ∙ coeff-mul 𝓚 v (conjugate 𝓚 u) 0 h
      ∙ sum_cong 𝓚 d _ _ (λ k l. ap (◌⊗◌ (coeff 𝓚 v k)) (wrapped-conjugate u k l) ∙ mul_comm _ _)
