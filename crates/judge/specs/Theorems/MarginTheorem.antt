-- The number of an answer to a text: SPECIFICATION 6.g and 10.7.
--     margin-read       accepted with m: m and the squared length of the sheet's opening are together the β'² of its header
--     line-accepted     the line of an accepted text: 0, and that margin
--     number_printed    "The number is at most 999999999999999, 15 columns."
use Rattle.std.proofs.Math.Path.{◌≡◌, ap}
use Rattle.std.specs.Prelude.{refl, Bool, true, false, cond, List, [], ◌∷◌, ℕ, zero, suc, ◌+◌, ◌≤◌, leb, ℤ, pos}
use Rattle.std.proofs.Common.{sym, ◌∙◌, arith, leb-true}
use Rattle.integers.specs.Sums.{norm_sq}
use Rattle.fold.specs.Answers.{Accepted, Failed}
use Rattle.fold.specs.Answers.{Answer}
use Rattle.fold.specs.Answers.{Refused, Judged, Written}
use Rattle.fold.specs.declared.Sizes.{Sizes}
use Rattle.fold.specs.Answers.{kind_of, number_of, first_failing, judged, answered}
use Rattle.fold.specs.Verdict.{checks, verdict, margin₉}
use Rattle.fold.specs.Limits.{most_bound}
use Rattle.fold.specs.Arguments.{VerifySized}
use Rattle.fold.specs.Laws.RefusalLaws.{both_left, both_right}
use Rattle.fold.proofs.Theorems.Margin.{margin-is}
use Rattle.sheet.specs.Reading.{header_numbers, header_tests, sizes_of, body_numbers, number_tests, body_tests, reading_tests}
use Rattle.sheet.specs.Layout.{line_text}
use Rattle.sheet.specs.Laws.AnswerLaws.{reading-passed}
use Rattle.sheet.specs.Laws.HeaderLaws.{header-bounded}
use Rattle.judge.specs.Judging.{sheet_statement, sheet_draws, sheet_transcript, sheet_opening, judged_numbers, judged_text, verdict_line}
use Rattle.judge.specs.Theorems.JudgeTheorem.{room_of, text_tests, by_text_length, judgement_of, read_and_narrow, numbers-judged}

module _ (text : List ℕ) where
  abbrev s : Sizes
  s = sizes_of (header_numbers text)

  abbrev xs : List ℤ
  xs = body_numbers s text

  pub margin-read : (m : ℕ) → judged_text text ≡ Judged (Accepted m) → m + norm_sq (sheet_opening s xs) ≡ s.target
  unfolding judged_numbers
  margin-read m = by_text_length (λ (a : Answer). a ≡ Judged (Accepted m) → m + norm_sq (sheet_opening s xs) ≡ s.target) text
      (λ e. let no : ◌≡◌ {A = ℕ} 2 0 = ap kind_of e in absurd (omega arith))
      (λ fits e.
      let (none, same) = judgement_of (first_failing (text_tests text)) (Accepted m) _ e in
      margin-is (sheet_statement s xs) (sheet_draws s xs) (sheet_transcript s xs) (sheet_opening s xs) m (numbers-judged text none ∙ ap Judged (sym same)))

-- an answer of kind 0 is accepted with its number
carries : (a : Answer) → kind_of a ≡ 0 → a ≡ Judged (Accepted (number_of a))
carries (Judged (Accepted m)) e = refl
carries (Judged (Failed k)) e = absurd (omega (arith, e))
carries (Refused k) e = absurd (omega (arith, e))
carries Written e = absurd (omega (arith, e))

-- the margin is the number after kind 0
pub line-accepted : (text : List ℕ) → kind_of (judged_text text) ≡ 0 → (m : ℕ) → m + norm_sq (sheet_opening (s text) (xs text)) ≡ (s text).target
    → verdict_line (judged_text text) ≡ line_text (pos 0 ∷ pos m ∷ [])
unfolding verdict_line
line-accepted text kind m whole =
    let same : number_of (judged_text text) ≡ m = omega (arith, margin-read text (number_of (judged_text text)) (carries (judged_text text) kind), whole) in
    rw (kind, same) refl

-- ---- the number's width

-- every number of a list of tests is at most m
abbrev all_up_to : ℕ → List (ℕ × Bool) → Bool
all_up_to m [] = true
all_up_to m (test ∷ tests) = cond (leb test.0 m) (all_up_to m tests) false

first_up_to : (m : ℕ) (tests : List (ℕ × Bool)) → all_up_to m tests ≡ true → first_failing tests ≤ m
unfolding first_failing
first_up_to m [] e = omega arith
first_up_to m (test ∷ tests) e = step (first_up_to m tests (both_right (leb test.0 m) _ e)) test.1
  where
    step : first_failing tests ≤ m → (t : Bool) → cond t (first_failing tests) test.0 ≤ m
    step later true = later
    step later false = leb-true test.0 m (both_left (leb test.0 m) (all_up_to m tests) e)

judged-number : (k m : ℕ) → k ≤ most_bound → m ≤ most_bound → number_of (Judged (judged k m)) ≤ most_bound
unfolding judged
judged-number zero m h l = l
judged-number (suc k) m h l = h

answered-number : (n : ℕ) (a : Answer) → n ≤ most_bound → (n ≡ 0 → number_of a ≤ most_bound) → number_of (answered n a) ≤ most_bound
unfolding answered
answered-number zero a h l = l refl
answered-number (suc n) a h l = h

pub number_printed : (text : List ℕ) → number_of (judged_text text) ≤ 999999999999999
unfolding verdict margin₉ reading_tests header_tests body_tests number_tests
number_printed text =
    by_text_length (λ (a : Answer). number_of a ≤ 999999999999999) text (omega arith)
    (λ fits. answered-number _ _ (omega (arith, first_up_to 15 (text_tests text) refl))
    (λ none. judged-number _ _ (omega (arith, check)) (omega (arith, (bounded none).target_small))))
  where
    check : first_failing (checks (sheet_statement (s text) (xs text)) (sheet_draws (s text) (xs text)) (sheet_transcript (s text) (xs text))
        (sheet_opening (s text) (xs text))) ≤ 9
    check = first_up_to 9 _ refl

    bounded : first_failing (text_tests text) ≡ 0 → VerifySized (s text)
    bounded none = header-bounded (header_numbers text) (reading-passed (room_of text) text (read_and_narrow text none).0).sizes
