-- Laws of the sizes of a sheet's parts, and of where its lines end.
use Rattle.std.specs.Prelude.{◌≡◌, refl, Bool, true, ℕ, ◌+◌, ◌*◌, ◌-◌, ◌%◌, ◌≤◌, ◌<◌}
use Rattle.std.proofs.Common.{mul-le-mul, arith}
use borrow.Author.Tests.{eq-eqb, ne_eqb, lt-ltb, le-ltb}
use Rattle.fold.specs.Arguments.{VerifySized}
use Rattle.fold.specs.Sizes.{z_count, function_size, t_size, garbage_size, opening_size}
use Rattle.fold.specs.Laws.SizeBounds.{function_size-bound, t_size-bound, garbage_size-bound, opening_size-bound}
use Rattle.fold.specs.declared.Sizes.{Sizes}
use Rattle.fields.specs.declared.sizes.Sections.{Sections}
use Rattle.fields.specs.Sections.{last_count, sections_of, total, projections_from, challenges_from, ends_element, ends_term, ends_line}
use Rattle.fold.specs.Limits.{most_commitment_rank, most_constraints}

pub le-one : {a b : ℕ} → a ≤ b → a + 1 ≤ b + 1
le-one h = omega arith

pub sum-le : {a b x y : ℕ} → a ≤ x → b ≤ y → a + b ≤ x + y
sum-le h k = omega arith

pub before-challenges : {k κ₂ : ℕ} → k ≤ most_constraints → κ₂ ≤ most_commitment_rank → 5 + (k + (5 + κ₂)) ≤ most_constraints + most_commitment_rank + 10
before-challenges h l = omega arith

-- ---- numbers of elements that code has computed

module _ (s : Sizes) (b : VerifySized s) where
  pub function-few : {x : ℕ} → x ≡ function_size s.shape.n s.shape.r → x ≤ 4232
  function-few e = rw e (function_size-bound _ _ b.shaped.rank-small b.shaped.parts-small)

  pub opening-few : {x : ℕ} → x ≡ opening_size z_count s.shape.n s.shape.r s.kappa s.t1 s.t2 → x ≤ 3712
  opening-few e = rw e (opening_size-bound _ _ _ _ _ _ (omega arith) b.shaped.rank-small b.shaped.parts-small b.κ-small b.t₁-most b.t₂-most)

  module _ {t g h : ℕ} (e : t ≡ t_size s.shape.r s.kappa s.t1) (f : g ≡ garbage_size s.shape.r s.t2) (k : h ≡ garbage_size s.shape.r s.t1) where
    t-few : t ≤ 1024
    t-few = rw e (t_size-bound _ _ _ b.shaped.parts-small b.κ-small b.t₁-most)

    g-few : g ≤ 1088
    g-few = rw f (garbage_size-bound _ _ b.shaped.parts-small b.t₂-most)

    h-few : h ≤ 1088
    h-few = rw k (garbage_size-bound _ _ b.shaped.parts-small b.t₁-most)

    pub matrices_few : s.kappa * s.shape.n + (s.kappa1 * t + (s.kappa1 * g + s.kappa2 * h)) ≤ 27648
    matrices_few =
        omega (arith, mul-le-mul b.κ-small b.shaped.rank-small, mul-le-mul b.κ₁-small t-few, mul-le-mul b.κ₁-small g-few, mul-le-mul b.κ₂-small h-few)

-- ---- sums of the parts

pub total-is : (s : Sizes) (q : Sections) {last : ℕ} → q ≡ sections_of s → last ≡ last_count s
    → q.head + (q.terms + (q.middle + (q.ones + last * s.shape.d))) ≡ total s
unfolding total sections_of
total-is s q e l = rw (e, l) refl

pub projections-is : (s : Sizes) (q : Sections) → q ≡ sections_of s → q.head + (q.terms + s.kappa1 * s.shape.d) ≡ projections_from s
unfolding projections_from sections_of
projections-is s q e = rw e refl

pub challenges-is : (s : Sizes) (q : Sections) → q ≡ sections_of s
    → q.head + (q.terms + (q.middle + (q.ones + (5 + (s.k + (5 + s.kappa2))) * s.shape.d))) ≡ challenges_from s
unfolding challenges_from sections_of
challenges-is s q e = rw e refl

-- ---- where lines end, by the tests of `ends_term` and `ends_line`

pub ends_alone : (d period i : ℕ) → i % period + 1 ≡ period → true ≡ ends_term d period i
unfolding ends_term
ends_alone d period i e = rw (eq-eqb (i % period + 1) period e) refl

pub ends_other : (d period i : ℕ) {t : Bool} → (i % period + 1 ≡ period → ⊥) → t ≡ ends_element d (i % period) → t ≡ ends_term d period i
unfolding ends_term
ends_other d period i ne e = rw (ne_eqb (i % period + 1) period ne) e

module _ (s : Sections) (i : ℕ) {t : Bool} where
  pub line-head : i < s.head → t ≡ ends_element s.d i → t ≡ ends_line s i
  unfolding ends_line
  line-head h e = rw (lt-ltb i s.head h) e

  pub line-terms : s.head ≤ i → i - s.head < s.terms → t ≡ ends_term s.d s.period (i - s.head) → t ≡ ends_line s i
  unfolding ends_line
  line-terms h k e = rw (le-ltb i s.head h, lt-ltb (i - s.head) s.terms k) e

  pub line-middle : s.head ≤ i → s.terms ≤ i - s.head → i - s.head - s.terms < s.middle
      → t ≡ ends_element s.d (i - s.head - s.terms) → t ≡ ends_line s i
  unfolding ends_line
  line-middle h k l e = rw (le-ltb i s.head h, le-ltb (i - s.head) s.terms k, lt-ltb (i - s.head - s.terms) s.middle l) e

  pub line-tail : s.head ≤ i → s.terms ≤ i - s.head → s.middle ≤ i - s.head - s.terms → s.ones ≤ i - s.head - s.terms - s.middle
      → t ≡ ends_element s.d (i - s.head - s.terms - s.middle - s.ones) → t ≡ ends_line s i
  unfolding ends_line
  line-tail h k l m e =
      rw (
        le-ltb i s.head h,
        le-ltb (i - s.head) s.terms k,
        le-ltb (i - s.head - s.terms) s.middle l,
        le-ltb (i - s.head - s.terms - s.middle) s.ones m,
      )
      e

pub line-ones : (s : Sections) (i : ℕ) → s.head ≤ i → s.terms ≤ i - s.head → s.middle ≤ i - s.head - s.terms
    → i - s.head - s.terms - s.middle < s.ones → true ≡ ends_line s i
unfolding ends_line
line-ones s i h k l m =
    rw (
      le-ltb i s.head h,
      le-ltb (i - s.head) s.terms k,
      le-ltb (i - s.head - s.terms) s.middle l,
      lt-ltb (i - s.head - s.terms - s.middle) s.ones m,
    )
    refl
