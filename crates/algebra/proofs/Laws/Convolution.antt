-- The coefficients of a product in 𝓚[X]/(X^d + 1), as a double loop computes them, and of a sum of elements; the element X, with X^d = -1.
use Rattle.std.specs.Prelude.{◌≡◌, leb}
use Rattle.std.proofs.Math.Path.{refl, sym, ap, ap₂}
use Rattle.std.proofs.Common.{◌∙◌, le-leb}
use Rattle.std.proofs.Math.Bool.{cond}
use Prim.Native.Nat.{ℕ, zero, suc, ◌+◌, ◌-◌, ◌≤◌, ◌<◌}
use Rattle.std.proofs.Math.Nat.{suc-sub-suc}
use native.Mathlib.Omega.{arith}
use Rattle.std.proofs.Math.Dec.{leb-suc-suc}
use Rattle.std.proofs.lemmas.Bool.{lt-leb}
use Rattle.algebra.specs.CommRing.{CommRing}
use Rattle.algebra.specs.Sum.{sum}
use Rattle.algebra.specs.Laws.SumLaws.{sum_cong, sum_first}
use Rattle.algebra.specs.Vec.{Vec, nil, cons, at}
use Rattle.algebra.specs.Laws.VecLaws.{ext}
use Rattle.algebra.specs.Negacyclic.{Negacyclic}
use Rattle.algebra.specs.Polynomial.{coeff, constant, negate, times_x, times}
use Rattle.algebra.specs.Laws.PolynomialLaws.{coeff-zero, coeff-add, coeff-neg, coeff-scale, coeff-times_x-suc}
use Rattle.algebra.proofs.Laws.TimesXLaws.{coeff-times_x-zero}
use Rattle.algebra.specs.Laws.PolynomialLaws.{times-times_x, times-one, times_comm}
use Rattle.algebra.specs.Indeterminate.{indeterminate}

module _ (𝓚 : CommRing) where
  infixl 65 ◌⊕◌
  infixl 70 ◌⊗◌
  infix 75 ⊖◌
  open 𝓚 use {Carrier as K, zero as 𝟘, one as 𝟙, add as ◌⊕◌, mul as ◌⊗◌, neg as ⊖◌}

  -- X^i · v
  unfoldable pub times_power_x : {d : ℕ} → ℕ → Vec K d → Vec K d
  times_power_x zero v = v
  times_power_x (suc i) v = times_x 𝓚 (times_power_x i v)

  times_power_x-times_x : {d : ℕ} (i : ℕ) (v : Vec K d) → times_power_x i (times_x 𝓚 v) ≡ times_x 𝓚 (times_power_x i v)
  unfolding times_power_x
  times_power_x-times_x zero v = refl
  times_power_x-times_x (suc i) v = ap (times_x 𝓚) (times_power_x-times_x i v)

  -- the coefficient of X^k in X^i · v: v_(k-i), or -v_(d+k-i) where the power wraps round
  unfoldable pub wrapped : {d : ℕ} → Vec K d → ℕ → ℕ → K
  wrapped {d} v k i = cond (leb i k) (coeff 𝓚 v (k - i)) (⊖ coeff 𝓚 v (d + k - i))

  pub wrapped_yes : {d : ℕ} (v : Vec K d) (k i : ℕ) → i ≤ k → wrapped v k i ≡ coeff 𝓚 v (k - i)
  unfolding wrapped
  wrapped_yes {d} v k i h = ap (λ b. cond b (coeff 𝓚 v (k - i)) (⊖ coeff 𝓚 v (d + k - i))) (le-leb i k h)

  pub wrapped-no : {d : ℕ} (v : Vec K d) (k i : ℕ) → k < i → wrapped v k i ≡ ⊖ coeff 𝓚 v (d + k - i)
  unfolding wrapped
  wrapped-no {d} v k i h = ap (λ b. cond b (coeff 𝓚 v (k - i)) (⊖ coeff 𝓚 v (d + k - i))) (lt-leb i k h)

  wrapped-suc : {d : ℕ} (v : Vec K d) (k i : ℕ) → wrapped v k i ≡ wrapped v (suc k) (suc i)
  unfolding wrapped
  wrapped-suc {d} v k i =
      let wraps : d + suc k - suc i ≡ d + k - i = omega arith in
      rw (leb-suc-suc, suc-sub-suc k i, wraps)

  pub coeff-times_power_x : {d : ℕ} (v : Vec K d) (i k : ℕ) → i ≤ d → k < d → coeff 𝓚 (times_power_x i v) k ≡ wrapped v k i
  unfolding times_power_x
  coeff-times_power_x v zero k l h =
      let same : k - 0 ≡ k = omega arith in
      sym (wrapped_yes v k 0 (omega arith) ∙ ap (coeff 𝓚 v) same)
  coeff-times_power_x {d} v (suc i) zero l h =
      let last : d - 1 - i ≡ d + 0 - suc i = omega arith in
      coeff-times_x-zero 𝓚 _ h
      ∙ ap ⊖◌ (coeff-times_power_x v i (d - 1) (omega arith) (omega arith) ∙ wrapped_yes v (d - 1) i (omega arith) ∙ ap (coeff 𝓚 v) last)
      ∙ sym (wrapped-no v 0 (suc i) (omega arith))
  coeff-times_power_x v (suc i) (suc k) l h =
      coeff-times_x-suc 𝓚 _ k h ∙ coeff-times_power_x v i k (omega arith) (omega arith) ∙ wrapped-suc v k i

  -- X^d = -1
  pub times_power_x-degree : {d : ℕ} (v : Vec K d) → times_power_x d v ≡ negate 𝓚 v
  times_power_x-degree {d} v = ext 𝟘 _ _ entry
    where
      entry : (k : ℕ) → k < d → coeff 𝓚 (times_power_x d v) k ≡ coeff 𝓚 (negate 𝓚 v) k
      entry k h =
          let whole : d + k - d ≡ k = omega arith in
          coeff-times_power_x v d k (omega arith) h ∙ wrapped-no v k d h ∙ ap (λ j. ⊖ coeff 𝓚 v j) whole ∙ sym (coeff-neg 𝓚 v k)

  coeff-times : {n d : ℕ} (u : Vec K n) (v : Vec K d) (k : ℕ)
      → coeff 𝓚 (times 𝓚 u v) k ≡ sum 𝓚 n (λ i. coeff 𝓚 u i ⊗ coeff 𝓚 (times_power_x i v) k)
  unfolding times sum at times_power_x
  coeff-times {d = d} nil v k = coeff-zero 𝓚 d k
  coeff-times {n = suc n} (cons a u) v k =
      coeff-add 𝓚 _ _ k
      ∙ ap₂ ◌⊕◌ (coeff-scale 𝓚 a v k) (ap (λ w. coeff 𝓚 w k) (sym (times-times_x 𝓚 u v)) ∙ coeff-times u (times_x 𝓚 v) k)
      ∙ simp times_power_x-times_x (sym (sum_first 𝓚 n (λ i. coeff 𝓚 (cons a u) i ⊗ coeff 𝓚 (times_power_x i v) k)))

  -- the negacyclic convolution
  pub coeff-mul : {d : ℕ} (u v : Vec K d) (k : ℕ) → k < d → coeff 𝓚 (times 𝓚 u v) k ≡ sum 𝓚 d (λ i. coeff 𝓚 u i ⊗ wrapped v k i)
  coeff-mul {d} u v k h =
      coeff-times u v k ∙ sum_cong 𝓚 d _ _ (λ i l. ap (◌⊗◌ (coeff 𝓚 u i)) (coeff-times_power_x v i k (omega arith) h))

  pub coeff-sum : {d : ℕ} (n : ℕ) (f : ℕ → Vec K d) (k : ℕ) → coeff 𝓚 (sum (Negacyclic 𝓚 d) n f) k ≡ sum 𝓚 n (λ i. coeff 𝓚 (f i) k)
  unfolding sum
  coeff-sum {d} zero f k = coeff-zero 𝓚 d k
  coeff-sum (suc n) f k = coeff-add 𝓚 _ (f n) k ∙ ap (λ x. x ⊕ coeff 𝓚 (f n) k) (coeff-sum n f k)

  pub indeterminate-mul : {d : ℕ} (u : Vec K d) → times 𝓚 (indeterminate 𝓚 d) u ≡ times_x 𝓚 u
  unfolding indeterminate
  indeterminate-mul {d} u = times_comm 𝓚 (indeterminate 𝓚 d) u ∙ times-times_x 𝓚 u (constant 𝓚 d 𝟙) ∙ ap (times_x 𝓚) (times-one 𝓚 u)
