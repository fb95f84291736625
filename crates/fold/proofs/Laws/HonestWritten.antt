-- What the five calls of an honest run wrote is the honest transcript and opening, and they have tested all but the bounds.
use Rattle.std.specs.Prelude.{◌≡◌, refl, List, ℕ, zero, suc, ◌<◌, ℤ}
use Rattle.std.proofs.Common.{◌∙◌, arith}
use Rattle.fold.specs.Answers.{Answer}
use Rattle.fold.specs.Answers.{Judged, Written}
use Rattle.fold.specs.Answers.{first_failing, answered, written}
use Rattle.fold.specs.Arguments.{transcript_of}
use Rattle.fold.specs.Statement.{Meets, Statement, Draws}
use Rattle.fold.specs.Messages.{opening, z_digits}
use Rattle.fold.specs.Verdict.{verdict}
use Rattle.fold.specs.Verification.{verification}
use Rattle.fold.specs.Refusals.{bound_tests, prover_tests, commit_tests, garbage_tests, amortize_tests}
use Rattle.fold.specs.Honest.{honest_t, honest_g, honest_h, honest_transcript}
use Rattle.fold.proofs.Theorems.MessagesTaken.{messages-test-all}
use Rattle.fold.proofs.Theorems.HonestRuns.{HonestVerdict, honest_judged, honest_answers}

-- a call that answers `Written` was not refused, and left what it promises
pub written-zero : (n : ℕ) → Written ≡ answered n Written → n ≡ 0
unfolding answered
written-zero zero e = refl
written-zero (suc n) e = let f : ◌≡◌ {A = ℕ} 0 1 = cc in absurd (omega arith)

pub left : (n : ℕ) {after : List ℤ} (new before : List ℤ) → Written ≡ answered n Written → after ≡ written n new before → after ≡ new
unfolding written
left n new before e is = is ∙ rw (written-zero n e) refl

module _ (𝓢 : Statement) (𝓓 : Draws) (s : List ℤ) where
  open 𝓢 use {relation, w, tz, κ, κ₁, κ₂, b, b₁, b₂, t₁, t₂, A, B, C, D}
  open relation use {d, n, r, K, L, whole, constant_terms}
  open 𝓓 use {projections, ψ, ω, α, δ, c}

  pub tested : (t g u₁ h u₂ z : List ℤ)
      → Written ≡ answered (first_failing (commit_tests d n r κ κ₁ b₁ b₂ t₁ t₂ A B C s t g u₁)) Written
      → Written ≡ answered (first_failing (garbage_tests d n r K L w κ₂ b₁ t₁ whole constant_terms projections ψ ω α δ D s h u₂)) Written
      → Written ≡ answered (first_failing (amortize_tests d n r tz b c s z)) Written
      → first_failing (bound_tests 𝓢 𝓓) ≡ 0 → first_failing (prover_tests 𝓢 𝓓 s) ≡ 0
  tested t g u₁ h u₂ z one four five bounds =
      messages-test-all 𝓢 𝓓 s t g u₁ h u₂ z (written-zero _ one) (written-zero _ four) (written-zero _ five) bounds

  pub honest_written : 0 < tz → first_failing (prover_tests 𝓢 𝓓 s) ≡ 0 → Meets relation s → {u₁ p b'' u₂ z t g h : List ℤ} {answer : Answer}
      → u₁ ≡ (honest_transcript 𝓢 𝓓 s).u₁ → p ≡ (honest_transcript 𝓢 𝓓 s).p → b'' ≡ (honest_transcript 𝓢 𝓓 s).b'' → u₂ ≡ (honest_transcript 𝓢 𝓓 s).u₂
      → z ≡ z_digits d n r tz b c s → t ≡ honest_t 𝓢 𝓓 s → g ≡ honest_g 𝓢 𝓓 s → h ≡ honest_h 𝓢 𝓓 s
      → answer ≡ verification 𝓢 𝓓 (transcript_of u₁ p b'' u₂) (opening z t g h)
      → HonestVerdict 𝓢 p (opening z t g h) (λ v. answer ≡ Judged v)
  honest_written some unrefused meets u-is p-is b-is v-is z-is t-is g-is h-is is =
      rw (is, u-is, p-is, b-is, v-is, z-is, t-is, g-is, h-is) (honest_answers 𝓢 𝓓 s some unrefused meets)

  -- whatever the witness
  pub judged-written : first_failing (prover_tests 𝓢 𝓓 s) ≡ 0 → {u₁ p b'' u₂ z t g h : List ℤ} {answer : Answer}
      → u₁ ≡ (honest_transcript 𝓢 𝓓 s).u₁ → p ≡ (honest_transcript 𝓢 𝓓 s).p → b'' ≡ (honest_transcript 𝓢 𝓓 s).b'' → u₂ ≡ (honest_transcript 𝓢 𝓓 s).u₂
      → z ≡ z_digits d n r tz b c s → t ≡ honest_t 𝓢 𝓓 s → g ≡ honest_g 𝓢 𝓓 s → h ≡ honest_h 𝓢 𝓓 s
      → answer ≡ verification 𝓢 𝓓 (transcript_of u₁ p b'' u₂) (opening z t g h)
      → answer ≡ Judged (verdict 𝓢 𝓓 (transcript_of u₁ p b'' u₂) (opening z t g h))
  judged-written unrefused u-is p-is b-is v-is z-is t-is g-is h-is is =
      is ∙ rw (u-is, p-is, b-is, v-is, z-is, t-is, g-is, h-is) (honest_judged 𝓢 𝓓 s unrefused)
