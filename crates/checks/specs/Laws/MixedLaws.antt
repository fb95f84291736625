-- Laws of what Mixed.antt defines.
use Rattle.std.specs.Prelude.{◌≡◌, List, length, ℤ}
use Rattle.std.proofs.Math.Path.{refl, sym, ap, ap₂}
use Rattle.std.proofs.Common.{◌∙◌, mul-le-mul_right, add-one}
use Prim.Native.Nat.{ℕ, zero, suc, ◌+◌, ◌-◌, ◌*◌, ◌<◌, ◌≤◌}
use Rattle.std.proofs.Math.Nat.{sub_self, add-sub_cancel_left}
use native.Mathlib.Omega.{arith}
use Rattle.algebra.specs.CommRing.{CommRing}
use Rattle.algebra.specs.Laws.RingLaws.{one-mul, add-mul}
use Rattle.algebra.specs.Sum.{sum}
use Rattle.algebra.specs.Laws.SumLaws.{sum_cong}
use Rattle.algebra.specs.Triangle.{pair, pairs-count, start, rows, below}
use Rattle.algebra.specs.Laws.TriangleLaws.{pair_row, pair-bound, rows-below, below-mul, below_cong}
use Rattle.algebra.specs.DotProduct.{mixed}
use Rattle.ring.specs.Element.{R, lift, el, array}
use Rattle.fold.specs.declared.Sizes.{Sizes}
use Rattle.fold.specs.Sizes.{pairs, garbage_size}
use Rattle.fold.specs.Laws.SizeBounds.{pairs-bound}
use Rattle.fold.specs.Opening.{block, g_place, h_place, garbage_of}
use Rattle.ring.specs.Laws.Loops.{held}
use Rattle.checks.specs.Known.Facts.{Fits, Opening}
use Rattle.checks.specs.Laws.PlaceLaws.{garbage-at}
use Rattle.checks.specs.Places.{garbage_at}
use Rattle.checks.specs.Laws.SizeLaws.{g_within, h-within}
use Rattle.checks.specs.Mixed.{weighed, Garbage, mixed_at, mixed_summand, mixed_row}
use Rattle.fold.specs.Limits.{most_parts}

module _ (𝓡 : CommRing) where
  infixl 65 ◌⊕◌
  infixl 70 ◌⊗◌
  open 𝓡 use {Carrier, one as 𝟙, add as ◌⊕◌, mul as ◌⊗◌}

  pub weighed-apart : (k : ℕ) (x : Carrier) → 0 < k → weighed 𝓡 k x ≡ x ⊕ x
  unfolding weighed
  weighed-apart zero x h = let no : ⊥ = omega arith in absurd no
  weighed-apart (suc k) x h = refl

  pub weighed-zero : (k : ℕ) (x : Carrier) → k ≤ 0 → weighed 𝓡 k x ≡ x
  unfolding weighed
  weighed-zero zero x h = refl
  weighed-zero (suc k) x h = let no : ⊥ = omega arith in absurd no

  twice : (x : Carrier) → (𝟙 ⊕ 𝟙) ⊗ x ≡ x ⊕ x
  twice x = add-mul 𝓡 𝟙 𝟙 x ∙ ap (λ y. y ⊕ y) (one-mul 𝓡 x)

  pub mixed-rows : (r : ℕ) (g : ℕ → ℕ → Carrier) (c : ℕ → Carrier)
      → rows 𝓡 r (λ i j. weighed 𝓡 (j - i) (g i j ⊗ (c i ⊗ c j))) ≡ mixed 𝓡 r g c
  unfolding mixed weighed
  mixed-rows r g c =
      rows-below 𝓡 r (λ i j. weighed 𝓡 (j - i) (f i j))
      ∙ ap₂ ◌⊕◌ (sum_cong 𝓡 r _ _ (λ i _. ap (λ k. weighed 𝓡 k (f i i)) (sub_self i)))
      (below_cong 𝓡 r _ _ (λ i j h l. weighed-apart (j - i) (f i j) (omega arith) ∙ sym (twice (f i j))) ∙ sym (below-mul 𝓡 r (𝟙 ⊕ 𝟙) f))
    where
      f : ℕ → ℕ → Carrier
      f i j = g i j ⊗ (c i ⊗ c j)

module _ (d r b t place : ℕ) (c o : List ℤ) where
  pub mixed-row : (i : ℕ) → sum (R d) (r - i) (mixed_summand d r b t place c o i) ≡ mixed_row d r b t place c o i
  unfolding mixed_row
  mixed-row i = refl

  pub mixed-all : sum (R d) r (mixed_row d r b t place c o) ≡ mixed (R d) r (garbage_of d r b t (block d o place)) (el d c)
  unfolding mixed_row mixed_summand mixed_at rows
  mixed-all =
      sum_cong (R d) r _ _ (λ i _. sum_cong (R d) (r - i) _ _ (λ k _. ap (λ e. weighed (R d) e (summand i k)) (sym (add-sub_cancel_left i k))))
      ∙ mixed-rows (R d) r (garbage_of d r b t (block d o place)) (el d c)
    where
      summand : ℕ → ℕ → (R d).Carrier
      summand i k = (R d).mul (garbage_of d r b t (block d o place) i (i + k)) ((R d).mul (el d c i) (el d c (i + k)))

  -- the summand at pair number q, from the garbage element there
  pub mixed-summand : (i k q : ℕ) {g x : List ℤ} → d ≤ 64 → q ≡ pair r i (i + k) → g ≡ array d (garbage_at d b t (block d o place) q)
      → x ≡ array d (mixed_at d c i k (lift d g)) → x ≡ array d (mixed_summand d r b t place c o i k)
  unfolding mixed_summand
  mixed-summand i k q small eq eg e =
      e ∙ ap (λ u. array d (mixed_at d c i k u)) (held small eg ∙ garbage-at d r b t (block d o place) i (i + k) q eq)

-- the term from what the calls promise: c_i c_j, and its product with g_ij, which is doubled off the diagonal
module _ (d : ℕ) (c : List ℤ) (i k : ℕ) (small : d ≤ 64) (g : List ℤ) {x y xy once : List ℤ} (ex : x ≡ array d (el d c i)) (ey : y ≡ array d (el d c (i + k)))
    (exy : xy ≡ array d ((R d).mul (lift d x) (lift d y))) (product : once ≡ array d ((R d).mul (lift d g) (lift d xy))) where
  value : once ≡ array d ((R d).mul (lift d g) ((R d).mul (el d c i) (el d c (i + k))))
  value = product ∙ ap (λ u. array d ((R d).mul (lift d g) u)) (held small exy ∙ ap₂ (R d).mul (held small ex) (held small ey))

  pub mixed-once : k ≤ 0 → once ≡ array d (mixed_at d c i k (lift d g))
  unfolding mixed_at
  mixed-once h = value ∙ ap (array d) (sym (weighed-zero (R d) k _ h))

  pub mixed-twice : {double : List ℤ} → 0 < k → double ≡ array d ((R d).add (lift d once) (lift d once))
      → double ≡ array d (mixed_at d c i k (lift d g))
  unfolding mixed_at
  mixed-twice h e =
      e ∙ ap (array d) (ap₂ (R d).add (held small value) (held small value) ∙ sym (weighed-apart (R d) k _ h))

pub pair_along : (r i k q : ℕ) → q ≡ pair r i i → q + k ≡ pair r i (i + k)
unfolding pair
pair_along r i k q e = omega arith

pub pair-first : (r : ℕ) → 0 ≡ pair r 0 0
unfolding pair start
pair-first r = refl

pub pair-next-row : (r i q : ℕ) → i < r → q ≡ pair r i i → q + (r - i) ≡ pair r (i + 1) (i + 1)
unfolding pair
pair-next-row r i q h e = rw (add-one i) (omega (arith, pair_row r i))

-- garbage element q = pair r i j lies within its block
pub garbage-fits : (d r t place i j q l : ℕ) → i ≤ j → j < r → q ≡ pair r i j → (place + pairs r * t) * d ≤ l → (place + (q * t + t)) * d ≤ l
unfolding pairs
garbage-fits d r t place i j q l h k e fits =
    let below : q < pairs-count r = rw e (pair-bound r i j h k) in
    let inside : place + (q * t + t) ≤ place + pairs-count r * t = omega (arith, mul-le-mul_right t below) in
    omega (arith, mul-le-mul_right d inside)

pub pair_small : (r i : ℕ) (q : ℕ) → r ≤ most_parts → i < r → q ≡ pair r i i → q ≤ 136
unfolding pairs
pair_small r i q small h e = omega (arith, e, pair-bound r i i (omega arith) h, pairs-bound r small)

-- g and h of an opening
module _ (tz : ℕ) (s : Sizes) (fits : Fits s) (o : List ℤ) (whole : Opening tz s o) where
  pub g-garbage : (place : ℕ) → place ≡ g_place tz s.shape.n s.shape.r s.kappa s.t1 → Garbage s.shape.d s.shape.r s.b2 s.t2 place o
  unfolding garbage_size
  g-garbage place e = record {
    degree = fits.shaped.degree;
    base = fits.base₂;
    parts = fits.shaped.parts-small;
    digits = omega (arith, fits.t₂-least);
    inside = rw e (g_within tz s (length o) whole);
  }

  pub h-garbage : (place : ℕ) → place ≡ h_place tz s.shape.n s.shape.r s.kappa s.t1 s.t2 → Garbage s.shape.d s.shape.r s.b1 s.t1 place o
  unfolding garbage_size
  h-garbage place e = record {
    degree = fits.shaped.degree;
    base = fits.base₁;
    parts = fits.shaped.parts-small;
    digits = omega (arith, fits.t₁-least);
    inside = rw e (h-within tz s (length o) whole);
  }

pub garbage-below : (d r t place q l : ℕ) → q < pairs r → (place + pairs r * t) * d ≤ l → (place + (q * t + t)) * d ≤ l
garbage-below d r t place q l below fits =
    let inside : place + (q * t + t) ≤ place + pairs r * t = omega (arith, mul-le-mul_right t below) in
    omega (arith, mul-le-mul_right d inside)
