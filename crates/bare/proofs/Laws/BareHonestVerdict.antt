-- The verdict on the honest messages and bare opening, as a value: only the two tests of lengths are left of the seven checks.
--     honest_verdict           the verdict on honest messages is their outcome
--     degree-positive, unmixed-statement     what is used of a statement that is not refused
use Rattle.std.specs.Prelude.{◌≡◌, Bool, true, ℕ, ◌*◌, ◌-◌, ◌≤◌, ◌<◌, leb, ℤ}
use Rattle.std.proofs.Math.Path.{refl, ap₂}
use Rattle.std.proofs.Common.{ap, arith}
use mathlib.Core.List.{List, [], ◌∷◌}
use Rattle.integers.specs.Sums.{norm_sq}
use Rattle.fold.specs.Answers.{first_failing, judged}
use Rattle.fold.specs.Statement.{Meets, Draws}
use Rattle.fold.specs.Verdict.{check₁}
use Rattle.fold.specs.Laws.RefusalLaws.{degree-fits}
use Rattle.fold.specs.Laws.TestLaws.{holds}
use Rattle.fold.proofs.Laws.HonestVerdict.{length_checks}
use Rattle.fold.proofs.Theorems.OneDigit.{Unmixed}
use Rattle.bare.specs.Statement.{BareStatement}
use Rattle.bare.specs.Honest.{honest_z, honest_transcript, honest_opening}
use Rattle.bare.specs.Verdict.{bare_verdict, z_margin}
use Rattle.bare.specs.Refusals.{bare_prover_tests}
use Rattle.bare.proofs.Laws.UnmixedLaws.{row_14}
use Rattle.bare.proofs.Laws.BareHonestChecks.{honest_z_numbers, passes₂, passes₃, passes₄, passes₅, passes₆, states₇}

-- the others hold, and the last is y
others_hold : (x c₂ c₃ c₄ c₅ c₆ c₇ y : Bool) → c₂ ≡ true → c₃ ≡ true → c₄ ≡ true → c₅ ≡ true → c₆ ≡ true → c₇ ≡ y
    → first_failing ((1, x) ∷ (2, c₂) ∷ (3, c₃) ∷ (4, c₄) ∷ (5, c₅) ∷ (6, c₆) ∷ (7, c₇) ∷ []) ≡ first_failing (length_checks 7 x y)
unfolding first_failing
others_hold x c₂ c₃ c₄ c₅ c₆ c₇ y e₂ e₃ e₄ e₅ e₆ e₇ = rw (e₂, e₃, e₄, e₅, e₆, e₇) refl

module _ (𝓢 : BareStatement) (𝓓 : Draws) (s : List ℤ) where
  open 𝓢 use {relation, w, z_bound}
  open relation use {d, bound}

  pub honest_verdict : 0 < d → Unmixed relation → Meets relation s
      → bare_verdict 𝓢 𝓓 (honest_transcript 𝓢 𝓓 s) (honest_opening 𝓢 𝓓 s)
      ≡ judged (first_failing (length_checks 7
      (leb (2 * norm_sq (honest_transcript 𝓢 𝓓 s).p) (w * bound))
      (leb (norm_sq (honest_z 𝓢 𝓓 s)) z_bound)))
      (z_bound - norm_sq (honest_z 𝓢 𝓓 s))
  unfolding bare_verdict check₁ z_margin
  honest_verdict degree unmixed meets =
      ap₂ judged (others_hold _ _ _ _ _ _ _ _ (passes₂ 𝓢 𝓓 s degree meets) (passes₃ 𝓢 𝓓 s) (passes₄ 𝓢 𝓓 s) (passes₅ 𝓢 𝓓 s)
      (passes₆ 𝓢 𝓓 s unmixed meets) (states₇ 𝓢 𝓓 s))
      (ap (λ (xs : List ℤ). z_bound - norm_sq xs) (honest_z_numbers 𝓢 𝓓 s))

  -- a statement that is not refused has some coefficient and no mixed products
  module _ (unrefused : first_failing (bare_prover_tests 𝓢 𝓓 s) ≡ 0) where
    pub degree-positive : 0 < d
    unfolding bare_prover_tests
    degree-positive = (degree-fits d (holds (bare_prover_tests 𝓢 𝓓 s) refl unrefused 1)).positive

    pub unmixed-statement : Unmixed relation
    unfolding bare_prover_tests
    unmixed-statement = (row_14 relation).0 (holds (bare_prover_tests 𝓢 𝓓 s) refl unrefused 14)
