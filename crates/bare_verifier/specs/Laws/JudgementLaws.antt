-- The parts of the bare verdict's checks are all of them, and what a call that is not refused knows.
use Rattle.std.specs.Prelude.{◌≡◌, refl, List, ℕ, ◌≤◌, ℤ}
use Rattle.std.proofs.Common.{sym, ap, ◌∙◌, arith}
use Rattle.fold.specs.Answers.{Verdict}
use Rattle.fold.specs.Answers.{first_failing, judged}
use Rattle.fold.specs.Statement.{Draws}
use Rattle.fold.specs.Arguments.{draws_of}
use Rattle.fold.specs.Laws.TestLaws.{stops, goes_on}
use Rattle.bare.specs.declared.BareSizes.{BareSizes}
use Rattle.bare.specs.declared.BareCheck.{BareCheck}
use Rattle.bare.specs.declared.BareCheck.TheVariants.{ProjectionLength, ConstantTerms, Amortized, GarbageOfZ, GarbageOfPhi, Aggregate, LengthOfZ}
use Rattle.bare.specs.Checks.{bare_check_number}
use Rattle.bare.specs.Statement.{BareStatement, BareTranscript}
use Rattle.bare.specs.Arguments.{bare_statement_of, bare_transcript_of, bare_verify_refusal}
use Rattle.bare.specs.Verdict.{bare_checks}
use Rattle.bare.specs.Known.BareFacts.{BareVerifyFacts, bare_verify_facts}
use Rattle.bare_verifier.specs.Judgement.{message_checks_of, folded_checks_of, aggregate_checks_of}

module _ (m : BareSizes) (A whole constant_terms projections ψ ω α δ c p b'' o : List ℤ) where
  abbrev 𝓢 : BareStatement
  𝓢 = bare_statement_of m A whole constant_terms

  abbrev 𝓓 : Draws
  𝓓 = draws_of projections ψ ω α δ c

  abbrev 𝓣 : BareTranscript
  𝓣 = bare_transcript_of p b''

  pub call_facts : 0 ≡ bare_verify_refusal 𝓢 𝓓 𝓣 o → BareVerifyFacts m A whole constant_terms projections ψ ω α δ c p b'' o
  call_facts e = bare_verify_facts m A whole constant_terms projections ψ ω α δ c p b'' o (sym e)

  -- one of the first part fails, or one of the second, or the third says
  module _ {x : ℕ} (e : x ≡ first_failing (message_checks_of m constant_terms p ψ ω b'')) where
    pub message-fails : (x ≡ 0 → ⊥) → x ≡ first_failing (bare_checks 𝓢 𝓓 𝓣 o)
    message-fails some = stops _ _ e some

    module _ (none : x ≡ 0) {y : ℕ} (f : y ≡ first_failing (folded_checks_of m A c o)) where
      pub folded-fails : (y ≡ 0 → ⊥) → y ≡ first_failing (bare_checks 𝓢 𝓓 𝓣 o)
      folded-fails some = goes_on _ _ refl e none (stops _ _ f some)

      pub aggregate_says : (margin : ℕ) {v : Verdict} → y ≡ 0 → v ≡ judged (first_failing (aggregate_checks_of m whole constant_terms projections ψ ω b'' α δ c o)) margin
          → v ≡ judged (first_failing (bare_checks 𝓢 𝓓 𝓣 o)) margin
      aggregate_says margin pass later = later ∙ ap (λ j. judged j margin) (goes_on _ _ refl e none (goes_on _ _ refl f pass refl))

pub check_nonzero : (k : BareCheck) → bare_check_number k ≡ 0 → ⊥
check_nonzero ProjectionLength e = omega arith
check_nonzero ConstantTerms e = omega arith
check_nonzero Amortized e = omega arith
check_nonzero GarbageOfZ e = omega arith
check_nonzero GarbageOfPhi e = omega arith
check_nonzero Aggregate e = omega arith
check_nonzero LengthOfZ e = omega arith
