-- An answer and what was written, by the number of the refusal.
use Rattle.std.specs.Prelude.{◌≡◌, refl, Result, Ok, Err, IsErrAnd, List, ℕ, zero, suc, length, replicate, ℤ, pos}
use Rattle.std.proofs.Common.{sym, ap, ap₂, ◌∙◌}
use Rattle.ring.specs.declared.element.Element.{Element}
use Rattle.ring.specs.Element.{R, lift, array}
use Rattle.fold.specs.declared.answers.Refusal.{Refusal}
use Rattle.fold.specs.Rows.{row_of}
use Rattle.fold.specs.Answers.{Answer, written_of}
use Rattle.fold.specs.Answers.{Refused}
use Rattle.fold.specs.Answers.{Written}
use Rattle.fold.specs.declared.CommitSizes.{CommitSizes}
use Rattle.fold.specs.declared.GarbageSizes.{GarbageSizes}
use Rattle.fold.specs.declared.Shape.{Shape}
use Rattle.fold.specs.declared.ZDigits.{ZDigits}
use Rattle.fold.specs.Answers.{answered, written}
use Rattle.fold.specs.Arguments.{product_refusal, commit_refusal, project_refusal, aggregate_refusal, garbage_refusal, amortize_refusal}
use Rattle.fold.specs.Arguments.{count_of, base_of}
use Rattle.fold.specs.Known.CallFacts as CallFacts
use Rattle.fold.specs.Messages.{p, b'', u₂, z_digits}
use Rattle.fold.specs.Known.CallFacts.{CommitFacts, ProjectFacts, AggregateCallFacts, GarbageFacts, AmortizeFacts, written-digits, written-h}
use Rattle.fold.specs.Known.WorkFacts.{TFacts, GFacts, U₁Facts, HFacts, U₂Facts}
use Rattle.prover.specs.Outputs.{t_of, g_of, u₁_of}
use Rattle.lizkarg.specs.Calls.{Product}
use Rattle.lizkarg.specs.Calls.{product_in, product_of, Committed, Projected, Aggregated, GarbageCommitted, Amortized, h_of}

-- where the number is not 0, the call refuses with it and writes nothing
refused-number : (n : ℕ) (answer : Answer) → (n ≡ 0 → ⊥) → Refused n ≡ answered n answer
unfolding answered
refused-number zero answer e = absurd (e refl)
refused-number (suc n) answer e = refl

pub refused : {x n : ℕ} (answer : Answer) → x ≡ n → (x ≡ 0 → ⊥) → Refused x ≡ answered n answer
refused {x} answer e some = rw (← e) (refused-number x answer some)

kept-number : (n : ℕ) (new old : List ℤ) → (n ≡ 0 → ⊥) → old ≡ written n new old
unfolding written
kept-number zero new old e = absurd (e refl)
kept-number (suc n) new old e = refl

pub kept : {x n : ℕ} (new old : List ℤ) → x ≡ n → (x ≡ 0 → ⊥) → old ≡ written n new old
kept {x} new old e some = rw (← e) (kept-number x new old some)

-- where it is 0, the call answers and writes
pub answers : {n : ℕ} (answer : Answer) → n ≡ 0 → answer ≡ answered n answer
unfolding answered
answers answer e = rw e refl

pub writes : {n : ℕ} {out new : List ℤ} (old : List ℤ) → n ≡ 0 → out ≡ new → out ≡ written n new old
unfolding written
writes old e New-is = rw e New-is

-- ---- the ring product

module _ (d : ℕ) (x y : List ℤ) {n : ℕ} (number : n ≡ product_refusal d x y) where
  pub product-refused : (n ≡ 0 → ⊥) → ◌≡◌ {A = Product} (record { answer = Refused n; element = record { coefficients = replicate 64 (pos 0) } }) (product_of d x y)
  product-refused some =
      λ i. record {
        answer = refused Written number some i;
        element = record { coefficients = kept (array d ((R d).mul (lift d x) (lift d y))) (replicate 64 (pos 0)) number some i };
      }

  pub product-written : {product : Element} → n ≡ 0 → product.coefficients ≡ array d ((R d).mul (lift d x) (lift d y))
      → ◌≡◌ {A = Product} (record { answer = Written; element = product }) (product_of d x y)
  product-written none new =
      λ i. record {
        answer = answers Written (sym number ∙ none) i;
        element = record { coefficients = writes (replicate 64 (pos 0)) (sym number ∙ none) new i };
      }

-- ---- message 1

module _ (sizes : CommitSizes) (A B C s t g u : List ℤ) {x : ℕ} (number : x ≡ commit_refusal sizes A B C s t g u) where
  pub commit-refused : (x ≡ 0 → ⊥) → Committed sizes A B C s t g u (Refused x) t g u
  commit-refused some =
      record {
        answer-is = refused Written number some;
        t-is = kept (t_of sizes A s) t number some;
        g-is = kept (g_of sizes s) g number some;
        u-is = kept (u₁_of sizes B C (t_of sizes A s) (g_of sizes s)) u number some;
      }

  facts : x ≡ 0 → CommitFacts sizes A B C s t g u
  facts none = CallFacts.commit-facts sizes (sym number ∙ none)

  pub commit-t : x ≡ 0 → TFacts sizes A s t
  commit-t none = (facts none).t

  pub commit-g : x ≡ 0 → GFacts sizes s g
  commit-g none = (facts none).g

  -- t' and g' are what the two calls before left
  pub commit-u : {t' g' : List ℤ} → x ≡ 0 → length t' ≡ length t → length g' ≡ length g → U₁Facts sizes B C t' g' u
  commit-u none t-long g-long = written-digits sizes t-long g-long (facts none).u

  pub commit-written : {t' g' u' : List ℤ} → x ≡ 0 → t' ≡ t_of sizes A s → g' ≡ g_of sizes s → u' ≡ u₁_of sizes B C t' g'
      → Committed sizes A B C s t g u Written t' g' u'
  commit-written none t-new g-new u-new =
      let zero_is = sym number ∙ none in
      record {
        answer-is = answers Written zero_is;
        t-is = writes t zero_is t-new;
        g-is = writes g zero_is g-new;
        u-is = writes u zero_is (u-new ∙ ap₂ (u₁_of sizes B C) t-new g-new);
      }

-- ---- message 2

module _ {shape : Shape} {w : ℕ} {projections s v : List ℤ} {x : ℕ} (number : x ≡ project_refusal shape w projections s v) where
  pub project-refused : (x ≡ 0 → ⊥) → Projected shape w projections s v (Refused x) v
  project-refused some =
      record { answer-is = refused Written number some; p-is = kept (p shape.d shape.n shape.r w projections s) v number some }

  pub project-facts : x ≡ 0 → ProjectFacts shape w projections s v
  project-facts none = CallFacts.project-facts shape (sym number ∙ none)

  pub project-written : {v' : List ℤ} → x ≡ 0 → v' ≡ p shape.d shape.n shape.r w projections s → Projected shape w projections s v Written v'
  project-written none new = record { answer-is = answers Written (sym number ∙ none); p-is = writes v (sym number ∙ none) new }

-- ---- message 3

module _ (shape : Shape) (L w : ℕ) (constant_terms projections ψ ω s v : List ℤ) {x : ℕ} (number : x ≡ aggregate_refusal shape L w constant_terms projections ψ ω s v) where
  pub aggregate-refused : (x ≡ 0 → ⊥) → Aggregated shape L w constant_terms projections ψ ω s v (Refused x) v
  aggregate-refused some =
      record {
        answer-is = refused Written number some;
        b-is = kept (b'' shape.d shape.n shape.r L w constant_terms projections ψ ω s) v number some;
      }

  pub aggregate-facts : x ≡ 0 → AggregateCallFacts shape L w constant_terms projections ψ ω s v
  aggregate-facts none = CallFacts.aggregate-facts shape (sym number ∙ none)

  pub aggregate-written : {v' : List ℤ} → x ≡ 0 → v' ≡ b'' shape.d shape.n shape.r L w constant_terms projections ψ ω s
      → Aggregated shape L w constant_terms projections ψ ω s v Written v'
  aggregate-written none new = record { answer-is = answers Written (sym number ∙ none); b-is = writes v (sym number ∙ none) new }

-- ---- message 4

module _ (sizes : GarbageSizes) (whole constant_terms projections ψ ω α δ D s h u : List ℤ) {x : ℕ}
    (number : x ≡ garbage_refusal sizes whole constant_terms projections ψ ω α δ D s h u) where
  garbage-found : x ≡ 0 → GarbageFacts sizes whole constant_terms projections ψ ω α δ D s h u
  garbage-found none = CallFacts.garbage-facts sizes (sym number ∙ none)

  pub garbage-refused : (x ≡ 0 → ⊥) → GarbageCommitted sizes whole constant_terms projections ψ ω α δ D s h u (Refused x) h u
  garbage-refused some =
      record {
        answer-is = refused Written number some;
        h-is = kept (h_of sizes whole constant_terms projections ψ ω α δ s) h number some;
        u-is = kept (u₂ sizes.shape.d sizes.shape.r sizes.kappa2 sizes.t1 D (h_of sizes whole constant_terms projections ψ ω α δ s)) u number some;
      }

  pub garbage-h : x ≡ 0 → HFacts sizes whole constant_terms projections ψ ω α δ s h
  garbage-h none = (garbage-found none).h

  pub garbage-u : {h' : List ℤ} → x ≡ 0 → length h' ≡ length h → U₂Facts sizes D h' u
  garbage-u none long = written-h sizes long (garbage-found none).u

  pub garbage-written : {h' u' : List ℤ} → x ≡ 0 → h' ≡ h_of sizes whole constant_terms projections ψ ω α δ s
      → u' ≡ u₂ sizes.shape.d sizes.shape.r sizes.kappa2 sizes.t1 D h'
      → GarbageCommitted sizes whole constant_terms projections ψ ω α δ D s h u Written h' u'
  garbage-written none h-new u-new =
      let zero_is = sym number ∙ none in
      record {
        answer-is = answers Written zero_is;
        h-is = writes h zero_is h-new;
        u-is = writes u zero_is (u-new ∙ ap (u₂ sizes.shape.d sizes.shape.r sizes.kappa2 sizes.t1 D) h-new);
      }

-- ---- message 5

module _ (shape : Shape) (digits : ZDigits) {c s v : List ℤ} {x : ℕ} (number : x ≡ amortize_refusal shape digits c s v) where
  pub amortize-refused : (x ≡ 0 → ⊥) → Amortized shape digits c s v (Refused x) v
  amortize-refused some =
      record { answer-is = refused Written number some; z-is = kept (z_digits shape.d shape.n shape.r (count_of digits) (base_of digits) c s) v number some }

  pub amortize-facts : x ≡ 0 → AmortizeFacts shape (count_of digits) (base_of digits) c s v
  amortize-facts none = CallFacts.amortize-facts shape (sym number ∙ none)

  pub amortize-written : {v' : List ℤ} → x ≡ 0 → v' ≡ z_digits shape.d shape.n shape.r (count_of digits) (base_of digits) c s → Amortized shape digits c s v Written v'
  amortize-written none new = record { answer-is = answers Written (sym number ∙ none); z-is = writes v (sym number ∙ none) new }

-- ---- results that hand a refusal on

pub refused_call : (r : Result Unit Refusal) (e : Refusal) → IsErrAnd r (λ x. x ≡ e) → written_of r ≡ Refused (row_of e)
refused_call (Ok done) e told = absurd told
refused_call (Err x) e told = ap (λ y. Refused (row_of y)) told

pub refused_product : (r : Result Element Refusal) (e : Refusal) → IsErrAnd r (λ x. x ≡ e) → product_in r ≡ product_in (Err e)
refused_product (Ok x) e told = absurd told
refused_product (Err x) e told = ap (λ (y : Refusal). product_in (Err y)) told
