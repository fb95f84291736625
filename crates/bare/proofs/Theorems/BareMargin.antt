-- SPECIFICATION 14.8: "Accepted carries the margin of check 7: the bound on z minus |z|²."
--     margin-is          accepted with m: m and the squared length of z are together the bound on z
--     margin-exactly     an answer of kind 0 is accepted with m exactly if they are
--     number_is          the number of an answer of kind 0 and that length are together the bound on z
--     bound-small, number_small     an accepted opening's bound on z keeps row 6, and so does the number
use Rattle.std.specs.Prelude.{◌≡◌, ◌↔◌, List, ℕ, ◌+◌, ◌≤◌, ℤ}
use Rattle.std.proofs.Math.Path.{refl}
use Rattle.std.proofs.Common.{sym, ap, ◌∙◌, arith}
use Rattle.integers.specs.Sums.{norm_sq}
use Rattle.fold.specs.Answers.{Accepted}
use Rattle.fold.specs.Answers.{Judged}
use Rattle.fold.specs.Answers.{kind_of, number_of, answered}
use Rattle.fold.specs.Statement.{Draws}
use Rattle.fold.specs.Laws.RefusalLaws.{all_of_all, length_bound-most}
use Rattle.fold.specs.Laws.TestLaws.{holds}
use Rattle.fold.proofs.Laws.VerificationLaws.{judged-accepted}
use Rattle.bare.specs.Statement.{BareStatement, BareTranscript}
use Rattle.bare.specs.Opening.{z_numbers}
use Rattle.bare.specs.Verdict.{z_margin, bare_margin, bare_verdict}
use Rattle.bare.specs.Refusals.{bare_verify_tests}
use Rattle.bare.specs.Arguments.{bare_verify_refusal, bare_verification}
use Rattle.bare.proofs.Laws.BareAccepted.{bare_accepted, bare_accepted-opening}

module _ (𝓢 : BareStatement) (𝓓 : Draws) (𝓣 : BareTranscript) (o : List ℤ) where
  open 𝓢 use {relation, κ, z_bound}
  open relation use {d, n, r}

  accepted_with : kind_of (bare_verification 𝓢 𝓓 𝓣 o) ≡ 0 → bare_verification 𝓢 𝓓 𝓣 o ≡ Judged (Accepted (bare_margin 𝓢 𝓓 𝓣 o))
  unfolding answered
  accepted_with e =
      let (unrefused, _) = judged-accepted (bare_verify_refusal 𝓢 𝓓 𝓣 o) (bare_verdict 𝓢 𝓓 𝓣 o) e in
      rw unrefused (ap Judged (bare_accepted 𝓢 𝓓 𝓣 o (bare_accepted-opening 𝓢 𝓓 𝓣 o e).facts))

  margin-left : kind_of (bare_verification 𝓢 𝓓 𝓣 o) ≡ 0 → bare_margin 𝓢 𝓓 𝓣 o + norm_sq (z_numbers d n r κ o) ≡ z_bound
  unfolding z_margin
  margin-left e = omega (arith, (bare_accepted-opening 𝓢 𝓓 𝓣 o e).facts.short)

  pub margin-is : (m : ℕ) → bare_verification 𝓢 𝓓 𝓣 o ≡ Judged (Accepted m) → m + norm_sq (z_numbers d n r κ o) ≡ z_bound
  margin-is m e =
      let kind : kind_of (bare_verification 𝓢 𝓓 𝓣 o) ≡ 0 = ap kind_of e in
      let same : m ≡ bare_margin 𝓢 𝓓 𝓣 o = ap number_of (sym e ∙ accepted_with kind) in
      omega (arith, same, margin-left kind)

  pub margin-exactly : kind_of (bare_verification 𝓢 𝓓 𝓣 o) ≡ 0 → (m : ℕ)
      → (bare_verification 𝓢 𝓓 𝓣 o ≡ Judged (Accepted m)) ↔ (m + norm_sq (z_numbers d n r κ o) ≡ z_bound)
  margin-exactly e m = (
    margin-is m,
    λ whole.
        let same : bare_margin 𝓢 𝓓 𝓣 o ≡ m = omega (arith, whole, margin-left e) in
        accepted_with e ∙ ap (λ k. Judged (Accepted k)) same,
  )

  pub number_is : kind_of (bare_verification 𝓢 𝓓 𝓣 o) ≡ 0 → number_of (bare_verification 𝓢 𝓓 𝓣 o) + norm_sq (z_numbers d n r κ o) ≡ z_bound
  number_is e = rw (accepted_with e) (margin-left e)

  -- row 6 covers the bound on z, so that the number of an accepted answer is small
  pub bound-small : kind_of (bare_verification 𝓢 𝓓 𝓣 o) ≡ 0 → z_bound ≤ 999999999999999
  unfolding bare_verify_tests
  bound-small e =
      let (unrefused, _) = judged-accepted (bare_verify_refusal 𝓢 𝓓 𝓣 o) (bare_verdict 𝓢 𝓓 𝓣 o) e in
      length_bound-most z_bound (search (all_of_all _ (holds (bare_verify_tests 𝓢 𝓓 𝓣 o) refl unrefused 6)))

  pub number_small : kind_of (bare_verification 𝓢 𝓓 𝓣 o) ≡ 0 → number_of (bare_verification 𝓢 𝓓 𝓣 o) ≤ 999999999999999
  number_small e = omega (arith, ap number_of (accepted_with e), margin-left e, bound-small e)
