-- SPECIFICATION 6.g: "Accepted carries the margin of check 9: the bound minus the squared length, β'² minus that of all digits."
--     margin-is          accepted with m: m and the squared length of all digits are together the target bound
--     margin-exactly     an answer of kind 0 is accepted with m exactly if they are
--     number_is          the number of an answer of kind 0 and that length are together the target bound
use Rattle.std.specs.Prelude.{◌≡◌, ◌↔◌, List, ℕ, ◌+◌, ℤ}
use Rattle.std.proofs.Common.{sym, ap, ◌∙◌, arith}
use Rattle.integers.specs.Sums.{norm_sq}
use Rattle.fold.specs.Answers.{Accepted}
use Rattle.fold.specs.Answers.{Judged}
use Rattle.fold.specs.Answers.{kind_of, number_of, first_failing, answered}
use Rattle.fold.specs.Statement.{Statement, Draws, Transcript}
use Rattle.fold.specs.Verdict.{margin₉, margin, verdict}
use Rattle.fold.specs.Refusals.{verify_tests}
use Rattle.fold.specs.Verification.{verification}
use Rattle.fold.proofs.Laws.Accepted.{accepted}
use Rattle.fold.proofs.Laws.OpeningLaws.{digits-length}
use Rattle.fold.proofs.Laws.VerificationLaws.{judged-accepted, accepted-opening}

module _ (𝓢 : Statement) (𝓓 : Draws) (𝓣 : Transcript) (o : List ℤ) where
  open 𝓢 use {relation, tz, κ, t₁, t₂, target}
  open relation use {d, n, r}

  -- an accepted opening has its length, so that its numbers are all its digits
  accepted_with : kind_of (verification 𝓢 𝓓 𝓣 o) ≡ 0 → verification 𝓢 𝓓 𝓣 o ≡ Judged (Accepted (margin 𝓢 𝓓 𝓣 o))
  unfolding answered
  accepted_with e =
      let (unrefused, _) = judged-accepted (first_failing (verify_tests 𝓢 𝓓 𝓣 o)) (verdict 𝓢 𝓓 𝓣 o) e in
      rw unrefused (ap Judged (accepted 𝓢 𝓓 𝓣 o (accepted-opening 𝓢 𝓓 𝓣 o e).facts))

  margin-left : kind_of (verification 𝓢 𝓓 𝓣 o) ≡ 0 → margin 𝓢 𝓓 𝓣 o + norm_sq o ≡ target
  unfolding margin₉
  margin-left e =
      let opening = accepted-opening 𝓢 𝓓 𝓣 o e in
      omega (arith, opening.facts.short, digits-length d n r tz κ t₁ t₂ o opening.sized)

  pub margin-is : (m : ℕ) → verification 𝓢 𝓓 𝓣 o ≡ Judged (Accepted m) → m + norm_sq o ≡ target
  margin-is m e =
      let kind : kind_of (verification 𝓢 𝓓 𝓣 o) ≡ 0 = ap kind_of e in
      let same : m ≡ margin 𝓢 𝓓 𝓣 o = ap number_of (sym e ∙ accepted_with kind) in
      omega (arith, same, margin-left kind)

  pub margin-exactly : kind_of (verification 𝓢 𝓓 𝓣 o) ≡ 0 → (m : ℕ) → (verification 𝓢 𝓓 𝓣 o ≡ Judged (Accepted m)) ↔ (m + norm_sq o ≡ target)
  margin-exactly e m = (
    margin-is m,
    λ whole.
        let same : margin 𝓢 𝓓 𝓣 o ≡ m = omega (arith, whole, margin-left e) in
        accepted_with e ∙ ap (λ k. Judged (Accepted k)) same,
  )

  pub number_is : kind_of (verification 𝓢 𝓓 𝓣 o) ≡ 0 → number_of (verification 𝓢 𝓓 𝓣 o) + norm_sq o ≡ target
  number_is e = rw (accepted_with e) (margin-left e)
