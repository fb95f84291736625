-- Check 6 in the next instance, over any commutative ring: with a weight β_e β_e' at chunk i of digit e and chunk i of digit e', the inner
-- products of the parts add up to <z, z> for z = Σ β_e z_e.
use Rattle.std.specs.Prelude.{◌≡◌, ◌≢◌, Bool, cond, ltb, eqb}
use Rattle.std.proofs.Math.Path.{refl, sym, ap, ap₂}
use Rattle.std.proofs.Common.{◌∙◌, add-zero as nat-add-zero, mod-eq_of_lt, arith}
use Rattle.std.proofs.Math.Bool.{true, false}
use Prim.Native.Nat.{ℕ, zero, ◌+◌, ◌*◌, ◌/◌, ◌%◌, ◌≤◌, ◌<◌}
use Rattle.std.proofs.Math.Nat.{mul-add-mod_self_right, mul-add-div_right, div-eq_of_lt}
use borrow.Author.Tests.{lt-ltb, le-ltb, eq-eqb, ne_eqb, eqb-true, eqb-false}
use Rattle.integers.specs.Laws.FlatLaws.{block-fits}
use Rattle.algebra.specs.CommRing.{CommRing}
use Rattle.algebra.specs.Laws.RingLaws.{zero-mul, add-mul}
use Rattle.algebra.specs.Sum.{sum}
use Rattle.algebra.specs.Laws.SumLaws.{sum_cong, sum-mul}
use Rattle.algebra.specs.Triangle.{start, rows}
use Rattle.algebra.specs.Laws.TriangleLaws.{sum-start}
use Rattle.algebra.specs.DotProduct.{inner}
use Rattle.algebra.specs.Laws.DotProductLaws.{inner_comm}
use Rattle.fold.specs.Sizes.{next_rank, next_parts}
use Rattle.fold.specs.Chunks.{chunk, width}
use Rattle.fold.specs.Laws.ChunkLaws.{chunks_cover, width-z, width-bound, start-z}
use Rattle.fold.proofs.Laws.ChunkSums.{rows_full, grid_sum, joined-square, chunk-inner}

eqb_comm : (i j : ℕ) → eqb i j ≡ eqb j i
eqb_comm i j = either (eqb i j) refl
  where
    either : (t : Bool) → eqb i j ≡ t → eqb i j ≡ eqb j i
    either true e = e ∙ sym (eq-eqb j i (sym (eqb-true i j e)))
    either false e = e ∙ sym (ne_eqb j i (λ q. eqb-false i j e (sym q)))

-- entry i of block e, in blocks of v
module _ (v e i : ℕ) (l : i < v) where
  pub block-entry : (e * v + i) % v ≡ i
  block-entry = mul-add-mod_self_right e v i ∙ mod-eq_of_lt l

  pub block-number : (e * v + i) / v ≡ e
  block-number = mul-add-div_right (omega arith) e i ∙ ap (λ x. e + x) (div-eq_of_lt l) ∙ nat-add-zero e

module _ (𝓡 : CommRing) (tz ν : ℕ) (β : ℕ → 𝓡.Carrier) where
  infixl 70 ◌⊗◌
  open 𝓡 use {Carrier as C, zero as 𝟘, mul as ◌⊗◌}
  open 𝓡 use {mul_comm}

  -- three tests before a value
  three : Bool → Bool → Bool → C → C
  three p q t x = cond p (cond q (cond t x 𝟘) 𝟘) 𝟘

  unfoldable pub weight : ℕ → ℕ → C
  weight s s' = cond (ltb s (tz * ν)) (cond (ltb s' (tz * ν)) (cond (eqb (s % ν) (s' % ν)) (β (s / ν) ⊗ β (s' / ν)) 𝟘) 𝟘) 𝟘

  weight-three : (s s' : ℕ) → weight s s' ≡ three (ltb s (tz * ν)) (ltb s' (tz * ν)) (eqb (s % ν) (s' % ν)) (β (s / ν) ⊗ β (s' / ν))
  unfolding weight three
  weight-three s s' = refl

  three_comm : (p q t : Bool) (x : C) → three p q t x ≡ three q p t x
  unfolding three
  three_comm true true t x = refl
  three_comm true false t x = refl
  three_comm false true t x = refl
  three_comm false false t x = refl

  three-second : (p t : Bool) (x : C) → three p false t x ≡ 𝟘
  unfolding three
  three-second true t x = refl
  three-second false t x = refl

  three_third : (p q : Bool) (x : C) → three p q false x ≡ 𝟘
  unfolding three
  three_third true true x = refl
  three_third true false x = refl
  three_third false q x = refl

  weight_comm : (s s' : ℕ) → weight s' s ≡ weight s s'
  weight_comm s s' =
      weight-three s' s
      ∙ three_comm (ltb s' (tz * ν)) (ltb s (tz * ν)) _ _
      ∙ ap₂ (three (ltb s (tz * ν)) (ltb s' (tz * ν))) (eqb_comm (s' % ν) (s % ν)) (mul_comm (β (s' / ν)) (β (s / ν)))
      ∙ sym (weight-three s s')

  weight-low : (s s' : ℕ) → tz * ν ≤ s → weight s s' ≡ 𝟘
  unfolding weight
  weight-low s s' h = rw (le-ltb s (tz * ν) h)

  weight-high : (s s' : ℕ) → tz * ν ≤ s' → weight s s' ≡ 𝟘
  weight-high s s' h =
      weight-three s s'
      ∙ ap (λ q. three (ltb s (tz * ν)) q (eqb (s % ν) (s' % ν)) (β (s / ν) ⊗ β (s' / ν))) (le-ltb s' (tz * ν) h)
      ∙ three-second _ _ _

  weight-other : (e i e' i' : ℕ) → i < ν → i' < ν → i' ≢ i → weight (e * ν + i) (e' * ν + i') ≡ 𝟘
  weight-other e i e' i' l l' ne =
      let s = e * ν + i in
      let s' = e' * ν + i' in
      weight-three s s'
      ∙ ap (λ t. three (ltb s (tz * ν)) (ltb s' (tz * ν)) t (β (s / ν) ⊗ β (s' / ν)))
      (ap₂ eqb (block-entry ν e i l) (block-entry ν e' i' l') ∙ ne_eqb i i' (λ q. ne (sym q)))
      ∙ three_third _ _ _

  weight-same : (e i e' : ℕ) → i < ν → e < tz → e' < tz → weight (e * ν + i) (e' * ν + i) ≡ β e ⊗ β e'
  unfolding weight
  weight-same e i e' l h h' =
      rw (
        lt-ltb (e * ν + i) (tz * ν) (block-fits tz ν e i h l),
        lt-ltb (e' * ν + i) (tz * ν) (block-fits tz ν e' i h' l),
        block-entry ν e i l,
        block-entry ν e' i l,
        eq-eqb i i refl,
        block-number ν e i l,
        block-number ν e' i l,
      )

module _ (𝓡 : CommRing) (tz n ν m μ : ℕ) (some-ν : 0 < ν) (β x : ℕ → 𝓡.Carrier) (parts : ℕ → ℕ → 𝓡.Carrier)
    (within : (s k : ℕ) → s < next_parts tz ν μ → k < width tz n ν m μ s → parts s k ≡ x (start (width tz n ν m μ) s + k))
    (past : (s k : ℕ) → s < next_parts tz ν μ → width tz n ν m μ s ≤ k → k < next_rank n ν m μ → parts s k ≡ 𝓡.zero) where
  infixl 65 ◌⊕◌
  infixl 70 ◌⊗◌
  open 𝓡 use {Carrier as C, zero as 𝟘, add as ◌⊕◌, mul as ◌⊗◌}

  product : ℕ → ℕ → C
  product s s' = inner 𝓡 (next_rank n ν m μ) (parts s) (parts s')

  -- the chunks i of two digits e and e'
  digit-product : (e e' : ℕ) → e < tz → e' < tz
      → sum 𝓡 ν (λ i. product (e * ν + i) (e' * ν + i)) ≡ inner 𝓡 n (λ k. x (e * n + k)) (λ k. x (e' * n + k))
  unfolding product next_parts inner
  digit-product e e' h h' =
      sum_cong 𝓡 ν _ _ (λ i l.
      chunk-inner 𝓡 (next_parts tz ν μ) (next_rank n ν m μ) (width tz n ν m μ) (width-bound tz n ν m μ) x parts within past
      (e * ν + i) (e' * ν + i) (chunk n ν i)
      (omega (arith, block-fits tz ν e i h l)) (omega (arith, block-fits tz ν e' i h' l))
      (width-z tz n ν m μ e i h l) (width-z tz n ν m μ e' i h' l)
      ∙ sum_cong 𝓡 (chunk n ν i) _ _ (λ k _. ap₂ (λ p p'. x p ⊗ x p') (place e i k h l) (place e' i k h' l)))
      ∙ sym (sum-start 𝓡 (chunk n ν) ν (λ p. x (e * n + p) ⊗ x (e' * n + p)))
      ∙ ap (λ k. sum 𝓡 k (λ p. x (e * n + p) ⊗ x (e' * n + p))) (chunks_cover n ν some-ν)
    where
      place : (e i k : ℕ) → e < tz → i < ν → start (width tz n ν m μ) (e * ν + i) + k ≡ e * n + (start (chunk n ν) i + k)
      place e i k h l = omega (arith, start-z tz n ν m μ some-ν e i h (omega arith))

  pub self_product : (a : ℕ → ℕ → C) → ((s : ℕ) → a s s ≡ weight 𝓡 tz ν β s s)
      → ((s s' : ℕ) → s < s' → a s s' ≡ weight 𝓡 tz ν β s s' ⊕ weight 𝓡 tz ν β s s')
      → rows 𝓡 (next_parts tz ν μ) (λ s s'. a s s' ⊗ inner 𝓡 (next_rank n ν m μ) (parts s) (parts s'))
      ≡ inner 𝓡 n (λ k. sum 𝓡 tz (λ e. β e ⊗ x (e * n + k))) (λ k. sum 𝓡 tz (λ e. β e ⊗ x (e * n + k)))
  unfolding product next_parts
  self_product a one two =
      rows_full 𝓡 (next_parts tz ν μ) _ summand (λ s _. ap (λ y. y ⊗ product s s) (one s)) (λ s s' l _. doubled s s' l)
      ∙ grid_sum 𝓡 tz ν (next_parts tz ν μ) summand (omega arith)
      (λ s s' h. ap (λ y. y ⊗ product s s') (weight-low 𝓡 tz ν β s s' h) ∙ zero-mul 𝓡 (product s s'))
      (λ s s' h. ap (λ y. y ⊗ product s s') (weight-high 𝓡 tz ν β s s' h) ∙ zero-mul 𝓡 (product s s'))
      (λ e i e' i' l l' ne. ap (λ y. y ⊗ product (e * ν + i) (e' * ν + i')) (weight-other 𝓡 tz ν β e i e' i' l l' ne) ∙ zero-mul 𝓡 _)
      ∙ sum_cong 𝓡 tz _ _ (λ e h. sum_cong 𝓡 tz _ _ (λ e' h'.
      sum_cong 𝓡 ν _ _ (λ i l. ap (λ y. y ⊗ product (e * ν + i) (e' * ν + i)) (weight-same 𝓡 tz ν β e i e' l h h'))
      ∙ sym (sum-mul 𝓡 ν (β e ⊗ β e') (λ i. product (e * ν + i) (e' * ν + i)))
      ∙ ap (λ y. β e ⊗ β e' ⊗ y) (digit-product e e' h h')))
      ∙ sym (joined-square 𝓡 tz n β x)
    where
      summand : ℕ → ℕ → C
      summand s s' = weight 𝓡 tz ν β s s' ⊗ product s s'

      doubled : (s s' : ℕ) → s < s' → a s s' ⊗ product s s' ≡ summand s s' ⊕ summand s' s
      doubled s s' l =
          ap (λ y. y ⊗ product s s') (two s s' l)
          ∙ add-mul 𝓡 (weight 𝓡 tz ν β s s') (weight 𝓡 tz ν β s s') (product s s')
          ∙ ap (λ y. weight 𝓡 tz ν β s s' ⊗ product s s' ⊕ y)
          (ap₂ ◌⊗◌ (sym (weight_comm 𝓡 tz ν β s s')) (inner_comm 𝓡 (next_rank n ν m μ) (parts s) (parts s')))
