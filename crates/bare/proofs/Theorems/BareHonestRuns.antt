-- Honest runs of the bare level (SPECIFICATION 14.9): "For every statement without mixed products, every witness that meets all its constraints, every bound
-- on z and whatever projection rows, ψ, ω, α, δ and c come in, none of them refused, the verdict on the honest messages and bare opening is failed 1 exactly
-- when 2·|p|² is above w·β²; otherwise failed 7 exactly when |z|² is above the bound on z; otherwise accepted, with that bound minus |z|² as margin. The
-- verifier does not refuse the honest messages and bare opening, and no call refuses what it is lent for them."
-- That nothing is refused is `first_failing (bare_prover_tests 𝓢 𝓓 s) ≡ 0`; row 14 is among these tests, so that the statement has no mixed products.
--     BareHonestVerdict     a verdict by the squared lengths of p and z
--     honest_runs           the verdict
--     honest_judged         the verifier's answer, whatever the witness: it is a judgement
--     honest_answers        the verifier's answer
-- What no call refuses stands in BareTaken.antt.
use Rattle.std.specs.Prelude.{◌≡◌, refl, ◌↔◌, List, ◌*◌, ◌-◌, ◌≤◌, ◌<◌, ℤ}
use Rattle.integers.specs.Sums.{norm_sq}
use Rattle.fold.specs.Answers.{Verdict}
use Rattle.fold.specs.Answers.{Accepted, Failed}
use Rattle.fold.specs.Answers.{Judged}
use Rattle.fold.specs.Answers.{first_failing, answered}
use Rattle.fold.specs.Statement.{Meets, Draws}
use Rattle.fold.proofs.Laws.HonestVerdict.{outcome_fails_1, outcome-fails-last, outcome-accepted}
use Rattle.fold.proofs.Theorems.HonestRuns.{judged_iff}
use Rattle.fold.proofs.Theorems.OneDigit.{Unmixed}
use Rattle.bare.specs.Statement.{BareStatement, BareTranscript}
use Rattle.bare.specs.Honest.{honest_z, honest_transcript, honest_opening}
use Rattle.bare.specs.Verdict.{bare_verdict}
use Rattle.bare.specs.Refusals.{bare_prover_tests}
use Rattle.bare.specs.Arguments.{bare_verification}
use Rattle.bare.proofs.Laws.BareHonestVerdict.{honest_verdict, degree-positive, unmixed-statement}
use Rattle.bare.proofs.Theorems.BareFormed.{honest_formed}

-- a verdict by the squared lengths of p and of z: `is v` says that the verdict is v
module _ (𝓢 : BareStatement) where
  open 𝓢 use {relation, w, z_bound}
  open relation use {bound}

  pub record BareHonestVerdict (p z : List ℤ) (is : Verdict → Type 0) : Type 0 where
    pub failed_1 : is (Failed 1) ↔ (w * bound < 2 * norm_sq p)
    pub failed_7 : is (Failed 7) ↔ ((2 * norm_sq p ≤ w * bound) × (z_bound < norm_sq z))
    pub accepted : is (Accepted (z_bound - norm_sq z)) ↔ ((2 * norm_sq p ≤ w * bound) × (norm_sq z ≤ z_bound))

module _ (𝓢 : BareStatement) (𝓓 : Draws) (s : List ℤ) where
  open 𝓢 use {relation, w, z_bound}
  open relation use {d, bound}

  abbrev 𝓣 : BareTranscript
  𝓣 = honest_transcript 𝓢 𝓓 s

  abbrev o : List ℤ
  o = honest_opening 𝓢 𝓓 s

  abbrev z : List ℤ
  z = honest_z 𝓢 𝓓 s

  -- what is used of the statement: some coefficient, no mixed products
  pub honest_runs_shaped : 0 < d → Unmixed relation → Meets relation s → BareHonestVerdict 𝓢 𝓣.p z (λ v. bare_verdict 𝓢 𝓓 𝓣 o ≡ v)
  honest_runs_shaped degree unmixed meets =
      let projected = 2 * norm_sq 𝓣.p in
      record {
        failed_1 = rw (honest_verdict 𝓢 𝓓 s degree unmixed meets) (outcome_fails_1 7 refl projected (w * bound) (norm_sq z) z_bound _);
        failed_7 = rw (honest_verdict 𝓢 𝓓 s degree unmixed meets) (outcome-fails-last 7 refl projected (w * bound) (norm_sq z) z_bound _);
        accepted = rw (honest_verdict 𝓢 𝓓 s degree unmixed meets) (outcome-accepted 7 refl projected (w * bound) (norm_sq z) z_bound _);
      }

  module _ (unrefused : first_failing (bare_prover_tests 𝓢 𝓓 s) ≡ 0) where
    pub honest_runs : Meets relation s → BareHonestVerdict 𝓢 𝓣.p z (λ v. bare_verdict 𝓢 𝓓 𝓣 o ≡ v)
    honest_runs meets = honest_runs_shaped (degree-positive 𝓢 𝓓 s unrefused) (unmixed-statement 𝓢 𝓓 s unrefused) meets

    pub honest_judged : bare_verification 𝓢 𝓓 𝓣 o ≡ Judged (bare_verdict 𝓢 𝓓 𝓣 o)
    unfolding answered
    honest_judged = rw (honest_formed 𝓢 𝓓 s unrefused)

    pub honest_answers : Meets relation s → BareHonestVerdict 𝓢 𝓣.p z (λ v. bare_verification 𝓢 𝓓 𝓣 o ≡ Judged v)
    unfolding answered
    honest_answers meets =
        let run = honest_runs meets in
        rw (honest_formed 𝓢 𝓓 s unrefused)
        (record { failed_1 = judged_iff run.failed_1; failed_7 = judged_iff run.failed_7; accepted = judged_iff run.accepted })
