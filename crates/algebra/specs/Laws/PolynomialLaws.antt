-- Laws of the operations of 𝓚[X]/(X^d + 1): coefficient by coefficient, and the laws of a commutative ring.
-- What X times a polynomial has at the constant term is in ../../proofs/Laws/TimesXLaws.antt.
use Rattle.std.specs.Prelude.{◌≡◌}
use Rattle.std.proofs.Math.Path.{refl, sym}
use Rattle.std.proofs.Common.{ap, ◌∙◌, arith}
use Prim.Native.Nat.{ℕ, zero, suc, ◌-◌, ◌≤◌, ◌<◌}
use Rattle.algebra.specs.CommRing.{CommRing}
use Rattle.algebra.specs.Laws.RingLaws.{zero-add, zero-mul, mul-zero, neg-zero, mul-neg, neg_distrib}
use Rattle.algebra.specs.Laws.RingLaws.{add_interchange, mul_left_comm}
use Rattle.algebra.specs.Vec.{Vec, nil, cons, at}
use Rattle.algebra.specs.Laws.VecLaws.{at-past, at_map, at_zip_with, ext}
use Rattle.algebra.specs.Polynomial.{coeff, zeros, constant, plus, negate, scale, shift, times_x, times}

module _ (𝓚 : CommRing) where
  infixl 65 ◌⊕◌
  infixl 70 ◌⊗◌
  infix 75 ⊖◌
  open 𝓚 use {Carrier as K, zero as 𝟘, one as 𝟙, add as ◌⊕◌, mul as ◌⊗◌, neg as ⊖◌}
  open 𝓚 use {add_assoc, add_comm, add-zero, add-neg, mul-one, mul-add}

  -- the coefficients of each operation but the product
  pub coeff-zero : (d k : ℕ) → coeff 𝓚 (zeros 𝓚 d) k ≡ 𝟘
  unfolding at zeros
  coeff-zero zero k = refl
  coeff-zero (suc n) zero = refl
  coeff-zero (suc n) (suc k) = coeff-zero n k

  pub coeff-constant : (d : ℕ) (c : K) → 0 < d → coeff 𝓚 (constant 𝓚 d c) 0 ≡ c
  unfolding at constant
  coeff-constant zero c h = absurd (omega arith)
  coeff-constant (suc n) c h = refl

  pub coeff-constant-suc : (d : ℕ) (c : K) (k : ℕ) → coeff 𝓚 (constant 𝓚 d c) (suc k) ≡ 𝟘
  unfolding at constant
  coeff-constant-suc zero c k = refl
  coeff-constant-suc (suc n) c k = coeff-zero n k

  pub coeff-add : {d : ℕ} (u v : Vec K d) (k : ℕ) → coeff 𝓚 (plus 𝓚 u v) k ≡ coeff 𝓚 u k ⊕ coeff 𝓚 v k
  unfolding plus
  coeff-add u v k = rw add-zero at (at_zip_with ◌⊕◌ 𝟘 𝟘 u v k)

  pub coeff-neg : {d : ℕ} (u : Vec K d) (k : ℕ) → coeff 𝓚 (negate 𝓚 u) k ≡ ⊖ coeff 𝓚 u k
  unfolding negate
  coeff-neg u k = rw neg-zero at (at_map ⊖◌ 𝟘 u k)

  pub coeff-scale : {d : ℕ} (c : K) (u : Vec K d) (k : ℕ) → coeff 𝓚 (scale 𝓚 c u) k ≡ c ⊗ coeff 𝓚 u k
  unfolding scale
  coeff-scale c u k = rw mul-zero at (at_map (◌⊗◌ c) 𝟘 u k)

  pub coeff-shift-zero : {d : ℕ} (a : K) (u : Vec K d) → 0 < d → coeff 𝓚 (shift 𝓚 a u) 0 ≡ a
  unfolding at shift
  coeff-shift-zero a nil h = absurd (omega arith)
  coeff-shift-zero a (cons b u) h = refl

  coeff-shift-suc : {d : ℕ} (a : K) (u : Vec K d) (k : ℕ) → suc k < d → coeff 𝓚 (shift 𝓚 a u) (suc k) ≡ coeff 𝓚 u k
  unfolding at shift
  coeff-shift-suc a nil k h = refl
  coeff-shift-suc a (cons b u) zero h = coeff-shift-zero b u (omega arith)
  coeff-shift-suc a (cons b u) (suc k) h = coeff-shift-suc b u k (omega arith)

  pub coeff-times_x-suc : {d : ℕ} (u : Vec K d) (k : ℕ) → suc k < d → coeff 𝓚 (times_x 𝓚 u) (suc k) ≡ coeff 𝓚 u k
  unfolding times_x
  coeff-times_x-suc u k h = coeff-shift-suc _ u k h

  -- addition and scaling, by coefficients
  pub plus_assoc : {d : ℕ} (u v w : Vec K d) → plus 𝓚 (plus 𝓚 u v) w ≡ plus 𝓚 u (plus 𝓚 v w)
  plus_assoc u v w = ext 𝟘 _ _ (λ k h. simp (coeff-add, add_assoc))

  pub plus_comm : {d : ℕ} (u v : Vec K d) → plus 𝓚 u v ≡ plus 𝓚 v u
  plus_comm u v = ext 𝟘 _ _ (λ k h. simp coeff-add (add_comm _ _))

  pub plus-zero : {d : ℕ} (u : Vec K d) → plus 𝓚 u (zeros 𝓚 d) ≡ u
  plus-zero u = ext 𝟘 _ _ (λ k h. simp (coeff-add, coeff-zero, add-zero))

  pub plus-negate : {d : ℕ} (u : Vec K d) → plus 𝓚 u (negate 𝓚 u) ≡ zeros 𝓚 d
  plus-negate u = ext 𝟘 _ _ (λ k h. simp (coeff-add, coeff-neg, coeff-zero, add-neg))

  plus_interchange : {d : ℕ} (u v w x : Vec K d) → plus 𝓚 (plus 𝓚 u v) (plus 𝓚 w x) ≡ plus 𝓚 (plus 𝓚 u w) (plus 𝓚 v x)
  plus_interchange u v w x = ext 𝟘 _ _ (λ k h. simp coeff-add (add_interchange 𝓚 _ _ _ _))

  scale-plus : {d : ℕ} (c : K) (u v : Vec K d) → scale 𝓚 c (plus 𝓚 u v) ≡ plus 𝓚 (scale 𝓚 c u) (scale 𝓚 c v)
  scale-plus c u v = ext 𝟘 _ _ (λ k h. simp (coeff-scale, coeff-add, mul-add))

  scale-scale : {d : ℕ} (b c : K) (u : Vec K d) → scale 𝓚 b (scale 𝓚 c u) ≡ scale 𝓚 c (scale 𝓚 b u)
  scale-scale b c u = ext 𝟘 _ _ (λ k h. simp coeff-scale (mul_left_comm 𝓚 b c _))

  scale-zero : {d : ℕ} (u : Vec K d) → scale 𝓚 𝟘 u ≡ zeros 𝓚 d
  scale-zero u = ext 𝟘 _ _ (λ k h. simp (coeff-scale, coeff-zero, zero-mul))

  -- X · is a linear map
  times_x-plus : {d : ℕ} (u v : Vec K d) → times_x 𝓚 (plus 𝓚 u v) ≡ plus 𝓚 (times_x 𝓚 u) (times_x 𝓚 v)
  unfolding times_x
  times_x-plus {d} u v = ext 𝟘 _ _ entry
    where
      entry : (k : ℕ) → k < d → coeff 𝓚 (times_x 𝓚 (plus 𝓚 u v)) k ≡ coeff 𝓚 (plus 𝓚 (times_x 𝓚 u) (times_x 𝓚 v)) k
      entry zero h = simp (coeff-add, coeff-shift-zero, neg_distrib)
      entry (suc k) h = simp (coeff-add, coeff-shift-suc)

  times_x-scale : {d : ℕ} (c : K) (u : Vec K d) → times_x 𝓚 (scale 𝓚 c u) ≡ scale 𝓚 c (times_x 𝓚 u)
  unfolding times_x
  times_x-scale {d} c u = ext 𝟘 _ _ entry
    where
      entry : (k : ℕ) → k < d → coeff 𝓚 (times_x 𝓚 (scale 𝓚 c u)) k ≡ coeff 𝓚 (scale 𝓚 c (times_x 𝓚 u)) k
      entry zero h = simp (coeff-scale, coeff-shift-zero, mul-neg)
      entry (suc k) h = simp (coeff-scale, coeff-shift-suc)

  -- a linear map that commutes with X
  pub record Linear {d : ℕ} (f : Vec K d → Vec K d) : Type 0 where
    pub plus_law : (v w : Vec K d) → f (plus 𝓚 v w) ≡ plus 𝓚 (f v) (f w)
    pub scale_law : (c : K) (v : Vec K d) → f (scale 𝓚 c v) ≡ scale 𝓚 c (f v)
    pub times_x_law : (v : Vec K d) → f (times_x 𝓚 v) ≡ times_x 𝓚 (f v)

  Linear-zero : {d : ℕ} {f : Vec K d → Vec K d} → Linear f → f (zeros 𝓚 d) ≡ zeros 𝓚 d
  Linear-zero {d} {f} l = ap f (sym (scale-zero (zeros 𝓚 d))) ∙ l.scale_law 𝟘 (zeros 𝓚 d) ∙ scale-zero (f (zeros 𝓚 d))

  -- it commutes with every product
  pub Linear-times : {n d : ℕ} {f : Vec K d → Vec K d} → Linear f → (u : Vec K n) (v : Vec K d) → f (times 𝓚 u v) ≡ times 𝓚 u (f v)
  unfolding times
  Linear-times l nil v = Linear-zero l
  Linear-times l (cons a u) v = rw (l.plus_law, l.scale_law, l.times_x_law, Linear-times l u v)

  times_x_linear : {d : ℕ} → Linear {d = d} (times_x 𝓚)
  times_x_linear = record { plus_law = times_x-plus; scale_law = times_x-scale; times_x_law = λ v. refl }

  scale_linear : {d : ℕ} (c : K) → Linear {d = d} (scale 𝓚 c)
  scale_linear c = record { plus_law = scale-plus c; scale_law = scale-scale c; times_x_law = λ v. sym (times_x-scale c v) }

  pub times-plus : {n d : ℕ} (u : Vec K n) (v w : Vec K d) → times 𝓚 u (plus 𝓚 v w) ≡ plus 𝓚 (times 𝓚 u v) (times 𝓚 u w)
  unfolding times
  times-plus nil v w = sym (plus-zero _)
  times-plus (cons a u) v w = rw (times-plus u v w, scale-plus, times_x-plus) (plus_interchange _ _ _ _)

  pub times-times_x : {n d : ℕ} (u : Vec K n) (v : Vec K d) → times 𝓚 u (times_x 𝓚 v) ≡ times_x 𝓚 (times 𝓚 u v)
  times-times_x u v = sym (Linear-times times_x_linear u v)

  pub times-scale : {n d : ℕ} (u : Vec K n) (c : K) (v : Vec K d) → times 𝓚 u (scale 𝓚 c v) ≡ scale 𝓚 c (times 𝓚 u v)
  times-scale u c v = sym (Linear-times (scale_linear c) u v)

  times_linear : {n d : ℕ} (u : Vec K n) → Linear {d = d} (times 𝓚 u)
  times_linear u =
      record {
        plus_law = times-plus u;
        scale_law = times-scale u;
        times_x_law = times-times_x u;
      }

  times_left_comm : {m n d : ℕ} (u : Vec K m) (v : Vec K n) (w : Vec K d) → times 𝓚 u (times 𝓚 v w) ≡ times 𝓚 v (times 𝓚 u w)
  times_left_comm u v w = Linear-times (times_linear u) v w

  -- u · 1 = u, also for a polynomial u of lower degree
  coeff-times-one : {n d : ℕ} (u : Vec K n) → n ≤ d → (k : ℕ) → k < d → coeff 𝓚 (times 𝓚 u (constant 𝓚 d 𝟙)) k ≡ coeff 𝓚 u k
  unfolding at times times_x
  coeff-times-one {d = d} nil l k h = coeff-zero d k
  coeff-times-one {d = d} (cons a u) l zero h =
      let last : (coeff 𝓚) (times 𝓚 u (constant 𝓚 d 𝟙)) (d - 1) ≡ coeff 𝓚 u (d - 1) = coeff-times-one u (omega arith) (d - 1) (omega arith) in
      let past : (coeff 𝓚) u (d - 1) ≡ 𝟘 = at-past 𝟘 u (omega arith) in
      simp (coeff-add, coeff-scale, coeff-constant, coeff-shift-zero, last, past, neg-zero, mul-one, add-zero)
  coeff-times-one {d = d} (cons a u) l (suc k) h =
      let below : (coeff 𝓚) (times 𝓚 u (constant 𝓚 d 𝟙)) k ≡ coeff 𝓚 u k = coeff-times-one u (omega arith) k (omega arith) in
      simp (coeff-add, coeff-scale, coeff-constant-suc, coeff-shift-suc, below, mul-zero, zero-add)

  pub times-one : {d : ℕ} (u : Vec K d) → times 𝓚 u (constant 𝓚 d 𝟙) ≡ u
  times-one u = ext 𝟘 _ _ (coeff-times-one u (omega arith))

  pub times_comm : {d : ℕ} (u v : Vec K d) → times 𝓚 u v ≡ times 𝓚 v u
  times_comm u v = ap (times 𝓚 u) (sym (times-one v)) ∙ times_left_comm u v _ ∙ ap (times 𝓚 v) (times-one u)

  pub times_assoc : {d : ℕ} (u v w : Vec K d) → times 𝓚 (times 𝓚 u v) w ≡ times 𝓚 u (times 𝓚 v w)
  times_assoc u v w = times_comm (times 𝓚 u v) w ∙ times_left_comm w u v ∙ ap (times 𝓚 u) (times_comm w v)
