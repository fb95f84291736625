-- SPECIFICATION 10: the program's line is the verdict on the numbers of a sheet, or 15 where a low digit is wide.
-- For the answers of `judge_sheet`, whose promise is `answer ≡ judged_text text`.
--     sheet_judged      the sheet of numbers h, xs with narrow low digits is judged by the verdict on them; with a wide one, `sheet_wide`, it is 15
--     judged_sheet      a text that is judged is the sheet of the numbers read from it, and its low digits are narrow
--     written-answer    what `write_sheet` put down, of at most 65536 bytes, is answered so for the numbers that it was given
--     text-refuses      a text of at most 65536 bytes is refused by the first of the reader's tests and row 15 that fails; a longer one by 12
--     verify-refuses    `verify` refuses the numbers of a sheet as the reader does, by the first of rows 8 to 10 that fails, and after them by row 15
-- What the reader takes is `sheet_exactly` (crates/sheet/specs/Theorems/SheetTheorems.antt); that reader and writer undo each other is `written_read`
-- and `read-written` (crates/writer/proofs/Theorems/WriterTheorems.antt); their refusals are `read-refuses` and `write_refuses` (Refusals.antt).
use Rattle.std.specs.Prelude.{◌≡◌, refl, true, false, List, ◌++◌, ℕ, ◌≤◌, ◌<◌, length, take, ℤ}
use Rattle.std.proofs.Common.{sym, ap, ◌∙◌, arith}
use Rattle.fold.specs.Answers.{Answer}
use Rattle.fold.specs.Answers.{Refused, Judged}
use Rattle.fold.specs.Answers.{Verdict}
use Rattle.fold.specs.Answers.{first_failing, answered}
use Rattle.fold.proofs.Theorems.FirstRefusal.{Refuses, judgement_refuses}
use Rattle.sheet.specs.Layout.{fields, body_lines, sheet_text, SheetNumbers}
use Rattle.sheet.specs.Reading.{header_tests, sizes_of, number_tests, body_tests, reading_tests}
use Rattle.sheet.specs.declared.header.SheetSizes.{SheetSizes}
use Rattle.writer.specs.WriteAnswer.{Length}
use Rattle.writer.specs.Writing.{header_fields, written_text, SheetWritten}
use Rattle.writer.proofs.Laws.LengthLaws.{sizes-given}
use Rattle.writer.proofs.Theorems.WriterTheorems.{written-exactly, text-put}
use Rattle.judge.specs.Judging.{sheet_narrow, wide_test, judged_numbers, judged_text}
use Rattle.judge.specs.Theorems.JudgeTheorem.{sheet_verdict, text_tests, Sheet, numbers-answer}
use Rattle.judge.specs.Theorems.JudgeTheorem as judge

module _ (h xs : List ℤ) (numbers : SheetNumbers h xs) (fits : length (sheet_text h xs) ≤ 65536) (answer : Answer)
    (is : answer ≡ judged_text (sheet_text h xs)) where
  pub sheet_judged : sheet_narrow (sizes_of h) xs ≡ true → answer ≡ Judged (sheet_verdict (sizes_of h) xs)
  sheet_judged thin = is ∙ judge.sheet_judged h xs numbers fits thin

  pub sheet_wide : sheet_narrow (sizes_of h) xs ≡ false → answer ≡ Refused 15
  sheet_wide wide = is ∙ judge.sheet_wide h xs numbers fits wide

pub judged_sheet : (text : List ℕ) (answer : Answer) → answer ≡ judged_text text → (v : Verdict) → answer ≡ Judged v → Sheet text v
judged_sheet text answer is v e = judge.judged_sheet text v (sym is ∙ e)

pub written-answer : {h : SheetSizes} {xs : List ℤ} {before after : List ℕ} {m : ℕ} → SheetWritten h xs before (Length m) after → m ≤ 65536
    → (answer : Answer) → answer ≡ judged_text (take m after)
    → answer ≡ answered (first_failing (wide_test h.sizes xs)) (Judged (sheet_verdict h.sizes xs))
unfolding written_text
written-answer {h} {xs} {m = m} call fits answer is =
    let (numbers, same, room) = (written-exactly call m).0 refl in
    rw (sizes-given h) at
    (is ∙ ap judged_text (text-put call).0 ∙ judge.sheet_answer (header_fields h) xs numbers (omega (arith, same, fits)))

pub text-refuses : (text : List ℕ) → length text ≤ 65536 → (answer : Answer) → answer ≡ judged_text text
    → Refuses (text_tests text) answer Unit
unfolding reading_tests header_tests body_tests number_tests
text-refuses text fits answer is = judgement_refuses _ refl _ (is ∙ judge.text-answer text fits)

pub longer-refused : (text : List ℕ) → 65536 < length text → (answer : Answer) → answer ≡ judged_text text → answer ≡ Refused 12
longer-refused text long answer is = is ∙ judge.refused-longer text long

pub verify-refuses : (h xs : List ℤ) → first_failing (header_tests h) ≡ 0 → length xs ≡ fields (body_lines (sizes_of h))
    → (answer : Answer) → answer ≡ judged_numbers (sizes_of h) xs → Refuses (number_tests (sizes_of h) xs ++ wide_test (sizes_of h) xs) answer Unit
unfolding number_tests
verify-refuses h xs header count answer is = judgement_refuses _ refl _ (is ∙ numbers-answer h xs header count)
