-- The verdict on honest messages, as a value: only the two tests of lengths are left of the nine checks.
--     outcome_fails_1, ..      failed 1, failed by the last check or accepted, by the two tests
--     honest_verdict           the verdict on honest messages is their outcome
--     shaped                   the sizes of a statement that is not refused
use Rattle.std.specs.Prelude.{◌≡◌, Bool, true, ◌↔◌, List, [], ◌∷◌, ℕ, ◌*◌, ◌-◌, ◌≤◌, ◌<◌, leb, ltb, ℤ}
use Rattle.std.proofs.Math.Path.{refl, ap, ap₂}
use Rattle.std.proofs.Common.{arith}
use borrow.Author.Tests.{leb-true, leb-false, le-leb, lt-leb, ltb-true, lt-ltb}
use Rattle.integers.specs.Sums.{norm_sq}
use Rattle.fold.specs.Answers.{Verdict}
use Rattle.fold.specs.Answers.{Accepted, Failed}
use Rattle.fold.specs.Answers.{Judged}
use Rattle.fold.specs.Answers.{kind_of, first_failing, judged}
use Rattle.fold.specs.Statement.{Meets}
use Rattle.fold.specs.Statement.{Statement, Draws}
use Rattle.fold.specs.Verdict.{verdict, check₁, margin₉}
use Rattle.fold.specs.Honest.{honest_transcript, honest_opening}
use Rattle.fold.proofs.Laws.HonestChecks.{Shaped, honest_length, passes₂, passes₃, passes₄, passes₅, passes₆, passes₇, passes₈, states₉}
use Rattle.fold.specs.Refusals.{prover_tests}
use Rattle.fold.specs.Laws.RefusalLaws.{refusal_iff, all_of_all, degree-fits, base-least, digit_count-least}
use Rattle.fold.specs.Laws.TestLaws.{rising, holds, first-after, accepted-none, failed-number, number-failed}

-- the two checks of lengths, 1 and the last, and whether each holds
abbrev pub length_checks : (k : ℕ) (first last : Bool) → List (ℕ × Bool)
length_checks k first last = (1, first) ∷ (k, last) ∷ []

-- the others hold, and the last is y
others_hold : (x c₂ c₃ c₄ c₅ c₆ c₇ c₈ c₉ y : Bool)
    → c₂ ≡ true → c₃ ≡ true → c₄ ≡ true → c₅ ≡ true → c₆ ≡ true → c₇ ≡ true → c₈ ≡ true → c₉ ≡ y
    → first_failing ((1, x) ∷ (2, c₂) ∷ (3, c₃) ∷ (4, c₄) ∷ (5, c₅) ∷ (6, c₆) ∷ (7, c₇) ∷ (8, c₈) ∷ (9, c₉) ∷ [])
    ≡ first_failing (length_checks 9 x y)
unfolding first_failing
others_hold x c₂ c₃ c₄ c₅ c₆ c₇ c₈ c₉ y e₂ e₃ e₄ e₅ e₆ e₇ e₈ e₉ = rw (e₂, e₃, e₄, e₅, e₆, e₇, e₈, e₉) refl

-- what the outcome says of the numbers that the tests compare, for the number k of the last check and a margin m
module _ (k : ℕ) (rises : ltb 1 k ≡ true) (a b c e m : ℕ) where
  abbrev outcome : ℕ
  outcome = first_failing (length_checks k (leb a b) (leb c e))

  in_order : rising 0 (length_checks k (leb a b) (leb c e)) ≡ true
  in_order = rw rises refl

  positive : 0 < k
  positive = omega (arith, ltb-true 1 k rises)

  pub outcome_fails_1 : (judged outcome m ≡ Failed 1) ↔ (b < a)
  outcome_fails_1 =
      let first = first-after 1 (leb a b) ((k, leb c e) ∷ []) [] in_order in (
        λ v. leb-false a b (first.0 (failed-number outcome m 1 v)).1,
        λ h. number-failed outcome m 1 (omega arith) (first.1 (tt, lt-leb a b h)),
      )

  pub outcome-fails-last : (judged outcome m ≡ Failed k) ↔ ((a ≤ b) × (e < c))
  outcome-fails-last =
      let last = first-after k (leb c e) [] ((1, leb a b) ∷ []) in_order in (
        λ v. let ((first, _), fails) = last.0 (failed-number outcome m k v) in (leb-true a b first, leb-false c e fails),
        λ h. number-failed outcome m k positive (last.1 ((le-leb a b h.0, tt), lt-leb c e h.1)),
      )

  pub outcome-accepted : (judged outcome m ≡ Accepted m) ↔ ((a ≤ b) × (c ≤ e))
  unfolding judged
  outcome-accepted =
      let none = refusal_iff (length_checks k (leb a b) (leb c e)) (rw (lt-ltb 0 k positive) refl) in (
        λ v. let (first, (last, _)) = none.0 (accepted-none outcome m (ap (λ (w : Verdict). kind_of (Judged w)) v)) in (leb-true a b first, leb-true c e last),
        λ h. ap (λ k. judged k m) (none.1 (le-leb a b h.0, (le-leb c e h.1, tt))),
      )

module _ (𝓢 : Statement) (𝓓 : Draws) (s : List ℤ) where
  open 𝓢 use {relation, w, tz, t₁, t₂, target}
  open relation use {bound}

  pub honest_verdict : Shaped 𝓢 → Meets relation s
      → verdict 𝓢 𝓓 (honest_transcript 𝓢 𝓓 s) (honest_opening 𝓢 𝓓 s)
      ≡ judged (first_failing (length_checks 9
      (leb (2 * norm_sq (honest_transcript 𝓢 𝓓 s).p) (w * bound))
      (leb (norm_sq (honest_opening 𝓢 𝓓 s)) target)))
      (target - norm_sq (honest_opening 𝓢 𝓓 s))
  unfolding verdict check₁ margin₉
  honest_verdict sizes meets =
      ap₂ judged (others_hold _ _ _ _ _ _ _ _ _ _ (passes₂ 𝓢 𝓓 s sizes meets) (passes₃ 𝓢 𝓓 s sizes) (passes₄ 𝓢 𝓓 s sizes) (passes₅ 𝓢 𝓓 s sizes)
      (passes₆ 𝓢 𝓓 s sizes) (passes₇ 𝓢 𝓓 s sizes) (passes₈ 𝓢 𝓓 s sizes meets) (states₉ 𝓢 𝓓 s))
      (ap (λ x. target - x) (honest_length 𝓢 𝓓 s))

  -- a statement that is not refused has the sizes that the checks rely on
  pub shaped : first_failing (prover_tests 𝓢 𝓓 s) ≡ 0 → 0 < tz → Shaped 𝓢
  unfolding prover_tests
  shaped accepted some =
      let row = holds (prover_tests 𝓢 𝓓 s) refl accepted in
      let bases = all_of_all _ (row 4) in
      record {
        degree = (degree-fits _ (row 1)).positive;
        base = search (base-least, bases);
        base₁ = search (base-least, bases);
        base₂ = search (base-least, bases);
        digits = some;
        digits₁ = omega (arith, digit_count-least t₁ (search bases));
        digits₂ = omega (arith, digit_count-least t₂ (search bases));
      }
