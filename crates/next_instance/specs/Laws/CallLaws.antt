-- The call of the next instance, stage by stage: refused, a check failed, written.
use Rattle.std.specs.Prelude.{◌≡◌, Result, Ok, Err, IsErrAnd, List, ℤ}
use Rattle.std.proofs.Math.Path.{refl, ap, sym}
use Rattle.std.proofs.Common.{◌∙◌}
use Prim.Native.Nat.{ℕ, zero, suc}
use Rattle.fold.specs.declared.answers.Refusal.{Refusal}
use Rattle.fold.specs.declared.answers.Check.{Check}
use Rattle.fold.specs.Rows.{row_of, check_number}
use Rattle.fold.specs.Answers.{Refused, Judged, Written, next_of}
use Rattle.fold.specs.Answers.{Failed}
use Rattle.fold.specs.declared.Sizes.{Sizes}
use Rattle.fold.specs.Answers.{first_failing, answered, checked, written}
use Rattle.fold.specs.Statement.{Statement, Draws, Transcript}
use Rattle.fold.specs.Arguments.{statement_with, draws_of, transcript_of}
use Rattle.fold.specs.Refusals.{next_tests}
use Rattle.fold.specs.NextInstance.{next_whole}
use Rattle.fold.specs.NextCall.{first_checks, next_answer, next_out}
use Rattle.fold.specs.Known.NextFacts.{NextFacts, next-facts}
use Rattle.verifier.specs.Judgement.{message_checks_of}
use Rattle.next_instance.specs.Calls.{NextCalled}

module _ (𝓢 : Statement) (𝓓 : Draws) (𝓣 : Transcript) (ν μ : ℕ) (out : List ℤ) where
  refused-at : (k : ℕ) → first_failing (next_tests 𝓢 𝓓 𝓣 ν μ out) ≡ k → (k ≡ 0 → ⊥) → NextCalled 𝓢 𝓓 𝓣 ν μ out (Refused k) out
  unfolding next_answer next_out answered written
  refused-at zero e some = absurd (some refl)
  refused-at (suc k) e some = record { answer-is = rw e refl; out-is = rw e refl }

  judged-at : (k : ℕ) → first_failing (next_tests 𝓢 𝓓 𝓣 ν μ out) ≡ 0 → first_checks 𝓢 𝓓 𝓣 ≡ k → (k ≡ 0 → ⊥)
      → NextCalled 𝓢 𝓓 𝓣 ν μ out (Judged (Failed k)) out
  unfolding next_answer next_out answered checked written
  judged-at zero e f some = absurd (some refl)
  judged-at (suc k) e f some = record { answer-is = rw (e, f) refl; out-is = rw (e, f) refl }

  written_at : {out' : List ℤ} → first_failing (next_tests 𝓢 𝓓 𝓣 ν μ out) ≡ 0 → first_checks 𝓢 𝓓 𝓣 ≡ 0 → out' ≡ next_whole 𝓢 𝓓 𝓣 ν μ
      → NextCalled 𝓢 𝓓 𝓣 ν μ out Written out'
  unfolding next_answer next_out answered checked written
  written_at e f new = record { answer-is = rw (e, f) refl; out-is = rw (e, f) new }

-- x is the number of the refusal, y that of the first of checks 1 and 2 that fails
module _ (tz : ℕ) (sizes : Sizes) (A B C D whole constant_terms projections ψ ω α δ c u₁ p b'' u₂ : List ℤ) (ν μ : ℕ) (out : List ℤ) where
  abbrev 𝓢 : Statement
  𝓢 = statement_with tz sizes A B C D whole constant_terms

  abbrev 𝓓 : Draws
  𝓓 = draws_of projections ψ ω α δ c

  abbrev 𝓣 : Transcript
  𝓣 = transcript_of u₁ p b'' u₂

  module _ {x : ℕ} (number : x ≡ first_failing (next_tests 𝓢 𝓓 𝓣 ν μ out)) where
    pub next-refused : (x ≡ 0 → ⊥) → NextCalled 𝓢 𝓓 𝓣 ν μ out (Refused x) out
    next-refused some = refused-at 𝓢 𝓓 𝓣 ν μ out x (sym number) some

    module _ (none : x ≡ 0) where
      pub call_facts : NextFacts tz sizes A B C D whole constant_terms projections ψ ω α δ c u₁ p b'' u₂ ν μ out
      call_facts = next-facts tz sizes A B C D whole constant_terms projections ψ ω α δ c u₁ p b'' u₂ ν μ out (sym number ∙ none)

      module _ {y : ℕ} (asked : y ≡ first_failing (message_checks_of sizes constant_terms p ψ ω b'')) where
        first-is : first_checks 𝓢 𝓓 𝓣 ≡ y
        unfolding first_checks
        first-is = sym asked

        pub next-judged : (y ≡ 0 → ⊥) → NextCalled 𝓢 𝓓 𝓣 ν μ out (Judged (Failed y)) out
        next-judged some = judged-at 𝓢 𝓓 𝓣 ν μ out y (sym number ∙ none) first-is some

        pub next-written : {out' : List ℤ} → y ≡ 0 → out' ≡ next_whole 𝓢 𝓓 𝓣 ν μ → NextCalled 𝓢 𝓓 𝓣 ν μ out Written out'
        next-written pass new = written_at 𝓢 𝓓 𝓣 ν μ out (sym number ∙ none) (first-is ∙ pass) new

-- a result that hands a refusal on
pub refused_result : (r : Result (Result Unit Check) Refusal) (e : Refusal) → IsErrAnd r (λ x. x ≡ e) → next_of check_number r ≡ Refused (row_of e)
refused_result (Ok done) e told = absurd told
refused_result (Err x) e told = ap (λ y. Refused (row_of y)) told
