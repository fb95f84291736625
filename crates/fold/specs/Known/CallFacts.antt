-- What a call that is not refused knows of its arguments, as far as its work needs it: for each call a record, whose fields are what its work
-- functions ask (WorkFacts), and the law that no refusal gives it. Rows are looked up by number, and within a row each fact by what it says.
--     CommitFacts, ProjectFacts, AggregateCallFacts, GarbageFacts, AmortizeFacts, VerifyFacts
--     commit-facts, project-facts, aggregate-facts, garbage-facts, amortize-facts, verify-facts
use Rattle.std.specs.Prelude.{◌≡◌, true, List, ℕ, ◌*◌, length, ℤ}
use Rattle.std.proofs.Math.Path.{refl}
use Rattle.std.proofs.Common.{◌∙◌}
use Rattle.residues.specs.Range.{projection_entries}
use Rattle.fold.specs.declared.Shape.{Shape}
use Rattle.fold.specs.declared.CommitSizes.{CommitSizes}
use Rattle.fold.specs.declared.GarbageSizes.{GarbageSizes}
use Rattle.fold.specs.declared.Sizes.{Sizes}
use Rattle.fold.specs.Sizes.{five}
use Rattle.fold.specs.Statement.{Statement, Draws, Transcript}
use Rattle.fold.specs.Answers.{first_failing}
use Rattle.fold.specs.Refusals.{projection_length, size_tests}
use Rattle.fold.specs.Refusals.{commit_bounds, project_bounds, aggregate_bounds, garbage_bounds, amortize_bounds}
use Rattle.fold.specs.Refusals.{commit_tests, project_tests, aggregate_tests, garbage_tests, amortize_tests, verify_tests}
use Rattle.fold.specs.Arguments.{statement_with, draws_of, transcript_of}
use Rattle.fold.specs.Arguments.{commit_refusal, project_refusal, aggregate_refusal, garbage_refusal, verify_refusal}
use Rattle.fold.specs.Laws.RefusalLaws.{all_of_all, tested}
use Rattle.fold.specs.Laws.TestLaws.{holds, early-holds}
use Rattle.fold.specs.Known.CallLimits.{CommitSized, ProjectLimits, AggregateLimits, GarbageSized, AmortizeLimits, VerifySized}
use Rattle.fold.specs.Known.CallLimits.{commit-limits, project-limits, aggregate-limits, garbage-limits, amortize-limits, verify-limits}
use Rattle.fold.specs.Known.WorkFacts.{TFacts, GFacts, U₁Facts, ValueFacts, HFacts, U₂Facts, MessageFacts, OuterFacts, OpeningFacts}

-- ---- message 1

module _ (sizes : CommitSizes) where
  open sizes use {shape, kappa, kappa1, b1, b2, t1, t2}
  open shape use {d, n, r}

  pub record CommitFacts (A B C s ts gs u₁ : List ℤ) : Type 0 where
    pub t : TFacts sizes A s ts
    pub g : GFacts sizes s gs
    pub u : U₁Facts sizes B C ts gs u₁

  pub commit-facts : {A B C s ts gs u₁ : List ℤ} → commit_refusal sizes A B C s ts gs u₁ ≡ 0 → CommitFacts A B C s ts gs u₁
  unfolding commit_tests
  commit-facts {A} {B} {C} {s} {ts} {gs} {u₁} e =
      let row = holds (commit_tests d n r kappa kappa1 b1 b2 t1 t2 A B C s ts gs u₁) refl e in
      let limits = commit-limits d n r kappa kappa1 b1 b2 t1 t2 (early-holds (commit_bounds d n r kappa kappa1 b1 b2 t1 t2) _ refl e) in
      search (tested, limits, all_of_all _ (row 7))

  -- t' and g' are what was written to ts and gs
  pub written-digits : {B C ts gs u₁ t' g' : List ℤ} → length t' ≡ length ts → length g' ≡ length gs
      → U₁Facts sizes B C ts gs u₁ → U₁Facts sizes B C t' g' u₁
  written-digits t-long g-long facts =
      record {
        limits = facts.limits;
        B-length = facts.B-length;
        C-length = facts.C-length;
        ts_length = t-long ∙ facts.ts_length;
        gs_length = g-long ∙ facts.gs_length;
        u₁-length = facts.u₁-length;
      }

-- ---- messages 2, 3 and 5

module _ (shape : Shape) where
  open shape use {d, n, r}

  pub record ProjectFacts (w : ℕ) (projections s p : List ℤ) : Type 0 where
    pub limits : ProjectLimits d n r w
    pub projections-length : length projections ≡ projection_length d n r w
    pub s-length : length s ≡ r * n * d
    pub p-length : length p ≡ w
    pub tested : projection_entries projections ≡ true

  pub project-facts : {w : ℕ} {projections s p : List ℤ} → project_refusal shape w projections s p ≡ 0 → ProjectFacts w projections s p
  unfolding project_tests
  project-facts {w} {projections} {s} {p} e =
      let row = holds (project_tests d n r w projections s p) refl e in
      let limits = project-limits d n r w (early-holds (project_bounds d n r w) _ refl e) in
      search (tested, limits, all_of_all _ (row 7), row 9)

  pub record AggregateCallFacts (L w : ℕ) (constant_terms projections ψ ω s b'' : List ℤ) : Type 0 where
    pub values : ValueFacts d n r L w constant_terms projections ψ ω s
    pub b''-length : length b'' ≡ five * d

  pub aggregate-facts : {L w : ℕ} {constant_terms projections ψ ω s b'' : List ℤ}
      → aggregate_refusal shape L w constant_terms projections ψ ω s b'' ≡ 0
      → AggregateCallFacts L w constant_terms projections ψ ω s b''
  unfolding aggregate_tests
  aggregate-facts {L} {w} {constant_terms} {projections} {ψ} {ω} {s} {b''} e =
      let row = holds (aggregate_tests d n r L w constant_terms projections ψ ω s b'') refl e in
      let limits = aggregate-limits d n r L w (early-holds (aggregate_bounds d n r L w) _ refl e) in
      search (tested, limits, all_of_all _ (row 7), row 9)

  -- z has tz digits
  pub record AmortizeFacts (tz b : ℕ) (c s zs : List ℤ) : Type 0 where
    pub limits : AmortizeLimits d n r b
    pub c-length : length c ≡ r * d
    pub s-length : length s ≡ r * n * d
    pub zs-length : length zs ≡ tz * n * d

  pub amortize-facts : {tz b : ℕ} {c s zs : List ℤ} → first_failing (amortize_tests d n r tz b c s zs) ≡ 0 → AmortizeFacts tz b c s zs
  unfolding amortize_tests
  amortize-facts {tz} {b} {c} {s} {zs} e =
      let row = holds (amortize_tests d n r tz b c s zs) refl e in
      let limits = amortize-limits d n r b (early-holds (amortize_bounds d n r b) _ refl e) in
      search (tested, limits, all_of_all _ (row 7))

-- ---- message 4

module _ (sizes : GarbageSizes) where
  open sizes use {shape, k, l, w, kappa2, b1, t1}
  open shape use {d, n, r}

  pub record GarbageFacts (whole constant_terms projections ψ ω α δ D s hs u₂ : List ℤ) : Type 0 where
    pub h : HFacts sizes whole constant_terms projections ψ ω α δ s hs
    pub u : U₂Facts sizes D hs u₂

  pub garbage-facts : {whole constant_terms projections ψ ω α δ D s hs u₂ : List ℤ}
      → garbage_refusal sizes whole constant_terms projections ψ ω α δ D s hs u₂ ≡ 0
      → GarbageFacts whole constant_terms projections ψ ω α δ D s hs u₂
  unfolding garbage_tests
  garbage-facts {whole} {constant_terms} {projections} {ψ} {ω} {α} {δ} {D} {s} {hs} {u₂} e =
      let row = holds (garbage_tests d n r k l w kappa2 b1 t1 whole constant_terms projections ψ ω α δ D s hs u₂) refl e in
      let limits = garbage-limits d n r k l w kappa2 b1 t1 (early-holds (garbage_bounds d n r k l w kappa2 b1 t1) _ refl e) in
      search (tested, limits, all_of_all _ (row 7), row 9)

  -- h' is what was written to hs
  pub written-h : {D hs u₂ h' : List ℤ} → length h' ≡ length hs → U₂Facts sizes D hs u₂ → U₂Facts sizes D h' u₂
  written-h long facts =
      record { limits = facts.limits; D-length = facts.D-length; hs_length = long ∙ facts.hs_length; u₂-length = facts.u₂-length }

-- ---- the verifier, with the opening o, whose z has tz digits

module _ (tz : ℕ) (sizes : Sizes) (A B C D whole constant_terms projections ψ ω α δ c u₁ p b'' u₂ o : List ℤ) where
  open sizes use {shape, k, l, w, kappa, kappa1, kappa2, b, b1, b2, t1, t2, bound, target}
  open shape use {d, n, r}

  abbrev 𝓢 : Statement
  𝓢 = statement_with tz sizes A B C D whole constant_terms

  abbrev 𝓓 : Draws
  𝓓 = draws_of projections ψ ω α δ c

  abbrev 𝓣 : Transcript
  𝓣 = transcript_of u₁ p b'' u₂

  pub record VerifyFacts : Type 0 where
    pub message : MessageFacts sizes constant_terms ψ ω p b''
    pub outer : OuterFacts tz sizes B C D u₁ u₂ o
    pub opening : OpeningFacts tz sizes A whole constant_terms projections ψ ω b'' α δ c o

  pub verify-facts : verify_refusal 𝓢 𝓓 𝓣 o ≡ 0 → VerifyFacts
  unfolding verify_tests
  verify-facts e =
      let row = holds (verify_tests 𝓢 𝓓 𝓣 o) refl e in
      let limits =
      verify-limits d n r k l w kappa kappa1 kappa2 b b1 b2 t1 t2 bound target (early-holds (size_tests 𝓢 𝓓) _ refl e) (row 6) in
      search (tested, limits, all_of_all _ (row 7), row 9)
