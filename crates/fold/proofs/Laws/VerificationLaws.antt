-- What it says that the verifier accepts: its call is not refused, so the opening has its length and range and narrow low digits, and the verdict is
-- of kind 0.
use Rattle.std.specs.Prelude.{◌≡◌, true, List, ℕ, zero, suc, ◌*◌, ◌<◌, length, take, drop, ℤ}
use Rattle.std.proofs.Math.Path.{refl}
use Rattle.std.proofs.Common.{arith}
use Rattle.residues.specs.Range.{coefficients, challenge}
use Rattle.fold.specs.Answers.{Verdict}
use Rattle.fold.specs.Answers.{Judged}
use Rattle.fold.specs.Answers.{kind_of, first_failing, answered}
use Rattle.fold.specs.Sizes.{opening_size}
use Rattle.fold.specs.Statement.{Statement, Draws, Transcript}
use Rattle.fold.specs.Verdict.{verdict}
use Rattle.fold.specs.Refusals.{narrow, verify_tests}
use Rattle.fold.specs.Laws.RefusalLaws.{all_of_all, sized-length, challenges_iff}
use Rattle.fold.specs.Laws.TestLaws.{holds}
use Rattle.fold.specs.Verification.{verification}
use Rattle.fold.proofs.Laws.Accepted.{Accepts, accepts}

pub judged-accepted : (k : ℕ) (v : Verdict) → kind_of (answered k (Judged v)) ≡ 0 → (k ≡ 0) × (kind_of (Judged v) ≡ 0)
unfolding answered
judged-accepted zero v e = (refl, e)
judged-accepted (suc k) v e = absurd (omega (arith, e))

module _ (𝓢 : Statement) (𝓓 : Draws) (𝓣 : Transcript) (o : List ℤ) where
  open 𝓢 use {relation, tz, κ, t₁, t₂}
  open relation use {d, n, r}
  open 𝓓 use {c}

  pub record AcceptedOpening : Type 0 where
    pub facts : Accepts 𝓢 𝓓 𝓣 o
    pub sized : length o ≡ opening_size tz n r κ t₁ t₂ * d
    pub small : coefficients o ≡ true
    pub digits-narrow : narrow 𝓢 o ≡ true
    pub rule : (i : ℕ) → i < r → challenge (take d (drop (i * d) c)) ≡ true

  pub accepted-opening : kind_of (verification 𝓢 𝓓 𝓣 o) ≡ 0 → AcceptedOpening
  unfolding verify_tests
  accepted-opening e =
      let (unrefused, passed) = judged-accepted (first_failing (verify_tests 𝓢 𝓓 𝓣 o)) (verdict 𝓢 𝓓 𝓣 o) e in
      let row = holds (verify_tests 𝓢 𝓓 𝓣 o) refl unrefused in
      record {
        facts = accepts 𝓢 𝓓 𝓣 o passed;
        sized = sized-length o _ (search (all_of_all _ (row 7)));
        small = search (all_of_all _ (row 8));
        digits-narrow = row 15;
        rule = (challenges_iff d r c).0 (row 10);
      }
