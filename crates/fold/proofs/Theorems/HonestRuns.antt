-- Demand 3, honest runs (SPECIFICATION 9.4): "For every statement, every witness that meets all its constraints, and whatever projection rows, ψ, ω,
-- α, δ and c come in, none of them refused, the verdict on the honest messages and opening is failed 1 exactly when 2·|p|² is above w·β²;
-- otherwise failed 9 exactly when the squared length of all its digits is above the target bound; otherwise accepted, with the target bound minus
-- that length as margin."
-- SPECIFICATION 4.5: "z = Σ c_i s_i in two digits to base b": tz is 2. For another number of digits above 0, see `honest_runs_shaped`.
use Rattle.std.specs.Prelude.{◌≡◌, refl, ◌↔◌, List, ◌*◌, ◌-◌, ◌≤◌, ◌<◌, ℤ}
use Rattle.std.proofs.Common.{ap}
use Rattle.integers.specs.Sums.{norm_sq}
use Rattle.fold.specs.Answers.{Verdict}
use Rattle.fold.specs.Answers.{Accepted, Failed}
use Rattle.fold.specs.Answers.{Judged}
use Rattle.fold.specs.Answers.{first_failing, answered}
use Rattle.fold.specs.Statement.{Meets, Statement, Draws, Transcript}
use Rattle.fold.specs.Verdict.{verdict}
use Rattle.fold.specs.Verification.{verification}
use Rattle.fold.specs.Honest.{honest_transcript, honest_opening}
use Rattle.fold.specs.Refusals.{prover_tests}
use Rattle.fold.proofs.Laws.HonestChecks.{Shaped}
use Rattle.fold.proofs.Theorems.HonestFormed.{honest_formed}
use Rattle.fold.proofs.Laws.HonestVerdict.{outcome_fails_1, outcome-fails-last, outcome-accepted, honest_verdict, shaped}

-- a verdict by the squared lengths of p and of all digits of an opening o: `is v` says that the verdict is v
module _ (𝓢 : Statement) where
  open 𝓢 use {relation, w, target}
  open relation use {bound}

  pub record HonestVerdict (p o : List ℤ) (is : Verdict → Type 0) : Type 0 where
    pub failed_1 : is (Failed 1) ↔ (w * bound < 2 * norm_sq p)
    pub failed_9 : is (Failed 9) ↔ ((2 * norm_sq p ≤ w * bound) × (target < norm_sq o))
    pub accepted : is (Accepted (target - norm_sq o)) ↔ ((2 * norm_sq p ≤ w * bound) × (norm_sq o ≤ target))

pub judged_iff : {v w : Verdict} {X : Type 0} → (v ≡ w) ↔ X → (Judged v ≡ Judged w) ↔ X
judged_iff e = (λ h. e.0 cc, λ x. ap Judged (e.1 x))

module _ (𝓢 : Statement) (𝓓 : Draws) (s : List ℤ) where
  open 𝓢 use {relation, w, tz, target}
  open relation use {bound}

  abbrev 𝓣 : Transcript
  𝓣 = honest_transcript 𝓢 𝓓 s

  abbrev o : List ℤ
  o = honest_opening 𝓢 𝓓 s

  pub honest_runs_shaped : Shaped 𝓢 → Meets relation s → HonestVerdict 𝓢 𝓣.p o (λ v. verdict 𝓢 𝓓 𝓣 o ≡ v)
  honest_runs_shaped sizes meets =
      let projected = 2 * norm_sq 𝓣.p in
      record {
        failed_1 = rw (honest_verdict 𝓢 𝓓 s sizes meets) (outcome_fails_1 9 refl projected (w * bound) (norm_sq o) target _);
        failed_9 = rw (honest_verdict 𝓢 𝓓 s sizes meets) (outcome-fails-last 9 refl projected (w * bound) (norm_sq o) target _);
        accepted = rw (honest_verdict 𝓢 𝓓 s sizes meets) (outcome-accepted 9 refl projected (w * bound) (norm_sq o) target _);
      }

  pub honest_runs : 0 < tz → first_failing (prover_tests 𝓢 𝓓 s) ≡ 0 → Meets relation s → HonestVerdict 𝓢 𝓣.p o (λ v. verdict 𝓢 𝓓 𝓣 o ≡ v)
  honest_runs some unrefused meets = honest_runs_shaped (shaped 𝓢 𝓓 s unrefused some) meets

  -- the verifier's answer: it refuses none of this, whatever the witness
  pub honest_judged : first_failing (prover_tests 𝓢 𝓓 s) ≡ 0 → verification 𝓢 𝓓 𝓣 o ≡ Judged (verdict 𝓢 𝓓 𝓣 o)
  unfolding answered
  honest_judged unrefused = rw (honest_formed 𝓢 𝓓 s unrefused)

  pub honest_answers : 0 < tz → first_failing (prover_tests 𝓢 𝓓 s) ≡ 0 → Meets relation s
      → HonestVerdict 𝓢 𝓣.p o (λ v. verification 𝓢 𝓓 𝓣 o ≡ Judged v)
  unfolding answered
  honest_answers some unrefused meets =
      let run = honest_runs some unrefused meets in
      rw (honest_formed 𝓢 𝓓 s unrefused)
      (record { failed_1 = judged_iff run.failed_1; failed_9 = judged_iff run.failed_9; accepted = judged_iff run.accepted })
