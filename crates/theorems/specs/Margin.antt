-- SPECIFICATION 6.g: "Accepted carries the margin of check 9: the bound minus the squared length, β'² minus that of all digits."
-- For the answers of `verify`, whose promise is `answer ≡ verification ..`, and of `judge_sheet`, whose promise is `answer ≡ judged_text text`.
--     verify-margin      accepted with m: m and the squared length of the opening are together the target bound
--     verify-exactly     where the kind is 0: accepted with m exactly if they are
--     verify-number      where the kind is 0, the number is that margin: in C too, where an answer is its kind and number
--     sheet_margin       the same of a text, its opening and the β'² of its header
--     line-accepted      the line that the program prints where accepted: 0, and the margin
--     number_printed     the number that the program prints is at most 999999999999999
-- For honest runs the margin is part of `honest_calls` (HonestRuns.antt).
use Rattle.std.specs.Prelude.{◌≡◌, ◌↔◌, List, [], ◌∷◌, ℕ, ◌+◌, ◌≤◌, ℤ, pos}
use Rattle.std.proofs.Common.{sym, ap, ◌∙◌}
use Rattle.integers.specs.Sums.{norm_sq}
use Rattle.fold.specs.Answers.{Answer}
use Rattle.fold.specs.Answers.{Judged}
use Rattle.fold.specs.Answers.{Accepted}
use Rattle.fold.specs.Answers.{kind_of, number_of}
use Rattle.fold.specs.Statement.{Statement, Draws, Transcript}
use Rattle.fold.specs.Verification.{verification}
use Rattle.fold.proofs.Theorems.Margin.{margin-is, margin-exactly, number_is}
use Rattle.sheet.specs.Layout.{line_text}
use Rattle.sheet.specs.Reading.{header_numbers, sizes_of, body_numbers}
use Rattle.judge.specs.Judging.{sheet_opening, judged_text, verdict_line}
use Rattle.judge.specs.Theorems.MarginTheorem.{margin-read}
use Rattle.judge.specs.Theorems.MarginTheorem as judge

module _ (𝓢 : Statement) (𝓓 : Draws) (𝓣 : Transcript) (o : List ℤ) (answer : Answer) (is : answer ≡ verification 𝓢 𝓓 𝓣 o) where
  pub verify-margin : (m : ℕ) → answer ≡ Judged (Accepted m) → m + norm_sq o ≡ 𝓢.target
  verify-margin m e = margin-is 𝓢 𝓓 𝓣 o m (sym is ∙ e)

  pub verify-exactly : kind_of answer ≡ 0 → (m : ℕ) → (answer ≡ Judged (Accepted m)) ↔ (m + norm_sq o ≡ 𝓢.target)
  verify-exactly e m = rw is (margin-exactly 𝓢 𝓓 𝓣 o (ap kind_of (sym is) ∙ e) m)

  pub verify-number : kind_of answer ≡ 0 → number_of answer + norm_sq o ≡ 𝓢.target
  verify-number e = rw is (number_is 𝓢 𝓓 𝓣 o (ap kind_of (sym is) ∙ e))

module _ (text : List ℕ) (answer : Answer) (is : answer ≡ judged_text text) where
  pub sheet_margin : (m : ℕ) → answer ≡ Judged (Accepted m)
      → m + norm_sq (sheet_opening (sizes_of (header_numbers text)) (body_numbers (sizes_of (header_numbers text)) text)) ≡ (sizes_of (header_numbers text)).target
  sheet_margin m e = margin-read text m (sym is ∙ e)

  pub line-accepted : kind_of answer ≡ 0 → (m : ℕ)
      → m + norm_sq (sheet_opening (sizes_of (header_numbers text)) (body_numbers (sizes_of (header_numbers text)) text)) ≡ (sizes_of (header_numbers text)).target
      → verdict_line answer ≡ line_text (pos 0 ∷ pos m ∷ [])
  line-accepted e m whole = rw is (judge.line-accepted text (ap kind_of (sym is) ∙ e) m whole)

  pub number_printed : number_of answer ≤ 999999999999999
  number_printed = rw is (judge.number_printed text)
