-- Demand 3, honest runs (SPECIFICATION 9.4): "For every statement, every witness that meets all its constraints, and whatever projection rows, ψ, ω,
-- α, δ and c come in, none of them refused, the verdict on the honest messages and opening is failed 1 exactly when 2·|p|² is above w·β²; otherwise
-- failed 9 exactly when the squared length of all its digits is above the target bound; otherwise accepted, with the target bound minus that length
-- as margin."
-- For what the five calls wrote and `verify` answers on it, by their promises alone; the cases: HonestVerdict, crates/fold/proofs/Theorems/HonestRuns.antt.
-- `honest_judged`: whatever the witness, `verify` refuses none of it.
use Rattle.std.specs.Prelude.{◌≡◌, List, ℤ}
use Rattle.fold.specs.Answers.{Answer}
use Rattle.fold.specs.Answers.{Judged, Written}
use Rattle.fold.specs.declared.StatementSizes.{StatementSizes}
use Rattle.fold.specs.Answers.{first_failing}
use Rattle.fold.specs.Arguments.{statement_of, draws_of, transcript_of, commit_sizes_of, garbage_sizes_of}
use Rattle.fold.specs.Statement.{Meets, Statement, Draws}
use Rattle.fold.specs.Messages.{opening}
use Rattle.fold.specs.Verdict.{verdict}
use Rattle.fold.specs.Verification.{verification}
use Rattle.fold.specs.Refusals.{bound_tests}
use Rattle.fold.proofs.Theorems.HonestRuns.{HonestVerdict}
use Rattle.fold.proofs.Laws.DigitCounts.{digits-few}
use Rattle.fold.proofs.Laws.HonestWritten.{honest_written, judged-written, tested, left}
use Rattle.lizkarg.specs.Calls.{Committed, Projected, Aggregated, GarbageCommitted, Amortized}

module _ (sizes : StatementSizes) (A B C D whole constant_terms projections ψ ω α δ c s : List ℤ) where
  abbrev pub 𝓢 : Statement
  𝓢 = statement_of sizes A B C D whole constant_terms

  abbrev pub 𝓓 : Draws
  𝓓 = draws_of projections ψ ω α δ c

  -- the five calls, "all from one statement, one witness and one set of lent projection rows, ψ, ω, α, δ and c", answered `Written`, and the lists
  -- that held `before` hold these numbers
  pub record HonestRun (u₁ p b'' u₂ z t g h : List ℤ) : Type 0 where
    pub before : record { t : List ℤ; g : List ℤ; u₁ : List ℤ; p : List ℤ; b'' : List ℤ; h : List ℤ; u₂ : List ℤ; z : List ℤ }
    pub message_1 : Committed (commit_sizes_of sizes) A B C s before.t before.g before.u₁ Written t g u₁
    pub message_2 : Projected sizes.shape sizes.w projections s before.p Written p
    pub message_3 : Aggregated sizes.shape sizes.l sizes.w constant_terms projections ψ ω s before.b'' Written b''
    pub message_4 : GarbageCommitted (garbage_sizes_of sizes) whole constant_terms projections ψ ω α δ D s before.h before.u₂ Written h u₂
    pub message_5 : Amortized sizes.shape sizes.z c s before.z Written z

  -- what `verify` answered on these numbers, where β² and β'² keep row 6: no message takes them, and all else the calls have tested
  pub honest_calls : {u₁ p b'' u₂ z t g h : List ℤ} → HonestRun u₁ p b'' u₂ z t g h → first_failing (bound_tests 𝓢 𝓓) ≡ 0 → Meets 𝓢.relation s
      → (answer : Answer) → answer ≡ verification 𝓢 𝓓 (transcript_of u₁ p b'' u₂) (opening z t g h)
      → HonestVerdict 𝓢 p (opening z t g h) (λ v. answer ≡ Judged v)
  honest_calls run bounds meets answer is =
      let one = run.message_1 in
      let four = run.message_4 in
      honest_written 𝓢 𝓓 s (digits-few sizes.z).0 (tested 𝓢 𝓓 s _ _ _ _ _ _ one.answer-is four.answer-is run.message_5.answer-is bounds) meets
      (left _ _ _ one.answer-is one.u-is) (left _ _ _ run.message_2.answer-is run.message_2.p-is)
      (left _ _ _ run.message_3.answer-is run.message_3.b-is) (left _ _ _ four.answer-is four.u-is)
      (left _ _ _ run.message_5.answer-is run.message_5.z-is) (left _ _ _ one.answer-is one.t-is)
      (left _ _ _ one.answer-is one.g-is) (left _ _ _ four.answer-is four.h-is) is

  -- "Then the verifier does not refuse the honest messages and opening either": not by row 15 and by no other, whatever the witness
  pub honest_judged : {u₁ p b'' u₂ z t g h : List ℤ} → HonestRun u₁ p b'' u₂ z t g h → first_failing (bound_tests 𝓢 𝓓) ≡ 0
      → (answer : Answer) → answer ≡ verification 𝓢 𝓓 (transcript_of u₁ p b'' u₂) (opening z t g h)
      → answer ≡ Judged (verdict 𝓢 𝓓 (transcript_of u₁ p b'' u₂) (opening z t g h))
  honest_judged run bounds answer is =
      let one = run.message_1 in
      let four = run.message_4 in
      judged-written 𝓢 𝓓 s (tested 𝓢 𝓓 s _ _ _ _ _ _ one.answer-is four.answer-is run.message_5.answer-is bounds)
      (left _ _ _ one.answer-is one.u-is) (left _ _ _ run.message_2.answer-is run.message_2.p-is)
      (left _ _ _ run.message_3.answer-is run.message_3.b-is) (left _ _ _ four.answer-is four.u-is)
      (left _ _ _ run.message_5.answer-is run.message_5.z-is) (left _ _ _ one.answer-is one.t-is)
      (left _ _ _ one.answer-is one.g-is) (left _ _ _ four.answer-is four.h-is) is
