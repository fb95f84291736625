-- What the ring product answers, and what each message's call promises: its answer, and every lent number afterwards. "Nothing lent is
-- written" on a refusal.
-- A list is followed by a mark, as t', where it stands for the lent numbers after the call.
use Rattle.std.specs.Prelude.{◌≡◌, Result, Ok, Err, List, ℕ, ℤ, pos, replicate}
use Rattle.fold.specs.Answers.{Answer}
use Rattle.fold.specs.declared.answers.Refusal.{Refusal}
use Rattle.fold.specs.Rows.{row_of}
use Rattle.fold.specs.Answers.{Refused, Written}
use Rattle.fold.specs.declared.CommitSizes.{CommitSizes}
use Rattle.fold.specs.declared.GarbageSizes.{GarbageSizes}
use Rattle.fold.specs.declared.Shape.{Shape}
use Rattle.fold.specs.declared.ZDigits.{ZDigits}
use Rattle.ring.specs.declared.element.Element.{Element}
use Rattle.ring.specs.Element.{R, lift, array}
use Rattle.fold.specs.Answers.{answered, written}
use Rattle.fold.specs.Arguments.{product_refusal, commit_refusal, project_refusal, aggregate_refusal, garbage_refusal, amortize_refusal}
use Rattle.fold.specs.Arguments.{count_of, base_of}
use Rattle.fold.specs.Messages.{p, b'', aggregate, h_digits, u₂, z_digits}
use Rattle.prover.specs.Outputs.{t_of, g_of, u₁_of}

-- An answer and a ring element
pub record Product : Type 0 where
  pub answer : Answer
  pub element : Element

-- those of a result: the element is zero where the call is refused
abbrev pub product_in : Result Element Refusal → Product
product_in (Ok x) = record { answer = Written; element = x }
product_in (Err r) = record { answer = Refused (row_of r); element = record { coefficients = replicate 64 (pos 0) } }

-- The ring product of elements by value: the sixty-four numbers of the product, or zeros where the call is refused
abbrev pub product_of : ℕ → (x y : List ℤ) → Product
product_of d x y =
    record {
      answer = answered (product_refusal d x y) Written;
      element = record { coefficients = written (product_refusal d x y) (array d ((R d).mul (lift d x) (lift d y))) (replicate 64 (pos 0)) };
    }

-- Message 1
pub record Committed (sizes : CommitSizes) (A B C s t g u : List ℤ) (answer : Answer) (t' g' u' : List ℤ) : Type 0 where
  pub answer-is : answer ≡ answered (commit_refusal sizes A B C s t g u) Written
  pub t-is : t' ≡ written (commit_refusal sizes A B C s t g u) (t_of sizes A s) t
  pub g-is : g' ≡ written (commit_refusal sizes A B C s t g u) (g_of sizes s) g
  pub u-is : u' ≡ written (commit_refusal sizes A B C s t g u) (u₁_of sizes B C (t_of sizes A s) (g_of sizes s)) u

-- Message 2
pub record Projected (shape : Shape) (w : ℕ) (projections s v : List ℤ) (answer : Answer) (v' : List ℤ) : Type 0 where
  pub answer-is : answer ≡ answered (project_refusal shape w projections s v) Written
  pub p-is : v' ≡ written (project_refusal shape w projections s v) (p shape.d shape.n shape.r w projections s) v

-- Message 3
pub record Aggregated (shape : Shape) (L w : ℕ) (constant_terms projections ψ ω s v : List ℤ) (answer : Answer) (v' : List ℤ) : Type 0 where
  pub answer-is : answer ≡ answered (aggregate_refusal shape L w constant_terms projections ψ ω s v) Written
  pub b-is : v' ≡ written (aggregate_refusal shape L w constant_terms projections ψ ω s v) (b'' shape.d shape.n shape.r L w constant_terms projections ψ ω s) v

-- Message 4: the digits of h for the sizes of a struct
abbrev pub h_of : GarbageSizes → (whole constant_terms projections ψ ω α δ s : List ℤ) → List ℤ
h_of m whole constant_terms projections ψ ω α δ s =
    h_digits m.shape.d m.shape.n m.shape.r m.b1 m.t1 (aggregate m.shape.d m.shape.n m.shape.r m.k m.l m.w whole constant_terms projections ψ ω α δ).φ s

pub record GarbageCommitted (sizes : GarbageSizes) (whole constant_terms projections ψ ω α δ D s h u : List ℤ) (answer : Answer) (h' u' : List ℤ) : Type 0 where
  pub answer-is : answer ≡ answered (garbage_refusal sizes whole constant_terms projections ψ ω α δ D s h u) Written
  pub h-is : h' ≡ written (garbage_refusal sizes whole constant_terms projections ψ ω α δ D s h u) (h_of sizes whole constant_terms projections ψ ω α δ s) h
  pub u-is : u'
      ≡ written (garbage_refusal sizes whole constant_terms projections ψ ω α δ D s h u)
      (u₂ sizes.shape.d sizes.shape.r sizes.kappa2 sizes.t1 D (h_of sizes whole constant_terms projections ψ ω α δ s)) u

-- Message 5
pub record Amortized (shape : Shape) (digits : ZDigits) (c s v : List ℤ) (answer : Answer) (v' : List ℤ) : Type 0 where
  pub answer-is : answer ≡ answered (amortize_refusal shape digits c s v) Written
  pub z-is : v' ≡ written (amortize_refusal shape digits c s v) (z_digits shape.d shape.n shape.r (count_of digits) (base_of digits) c s) v
