-- SPECIFICATION 10: the answer to a text, and the line that says it.
--     sheet_statement, sheet_draws, sheet_transcript, sheet_opening    what the verifier takes from a sheet
--     sheet_narrow, wide_test     row 15, which the verifier tests of it and the reader does not
--     judged_text text           the answer to a text
--     verdict_line answer        the line that the program prints
use Rattle.std.specs.Prelude.{Bool, cond, List, [], ◌∷◌, ℕ, leb, length, ℤ, pos}
use Rattle.fold.specs.Answers.{Answer}
use Rattle.fold.specs.Answers as answer
use Rattle.fold.specs.Statement.{Statement, Draws, Transcript}
use Rattle.fold.specs.Arguments.{statement_with, draws_of, transcript_of}
use Rattle.fold.specs.Sizes.{z_count}
use Rattle.fold.specs.Answers.{kind_of, number_of}
use Rattle.fold.specs.Verification.{verification}
use Rattle.fold.specs.Refusals.{narrow}
use Rattle.fold.specs.declared.Sizes.{Sizes}
use Rattle.sheet.specs.SheetAnswer.{SheetAnswer}
use Rattle.fields.specs.Sections.{total}
use Rattle.sheet.specs.Lists.{list_lengths, list_at}
use Rattle.sheet.specs.Reading.{header_numbers, sizes_of, body_numbers, reading, answer_of, header_of}
use Rattle.sheet.specs.Layout.{line_text}

module _ (s : Sizes) (xs : List ℤ) where
  abbrev pub list : ℕ → List ℤ
  list k = list_at (list_lengths s) xs k

  -- "The sheet keeps two digits"
  abbrev pub sheet_statement : Statement
  sheet_statement = statement_with z_count s (list 0) (list 1) (list 2) (list 3) (list 4) (list 5)

  abbrev pub sheet_draws : Draws
  sheet_draws = draws_of (list 7) (list 9) (list 10) (list 12) (list 13) (list 15)

  abbrev pub sheet_transcript : Transcript
  sheet_transcript = transcript_of (list 6) (list 8) (list 11) (list 14)

  abbrev pub sheet_opening : List ℤ
  sheet_opening = list 16

  -- the low digits of the opening are narrow
  abbrev pub sheet_narrow : Bool
  sheet_narrow = narrow sheet_statement sheet_opening

  -- row 15, which stands after the reader's tests
  abbrev pub wide_test : List (ℕ × Bool)
  wide_test = (15, sheet_narrow) ∷ []

  -- what the verifier answers to the numbers of a sheet
  unfoldable pub judged_numbers : Answer
  judged_numbers = verification sheet_statement sheet_draws sheet_transcript sheet_opening

-- ---- the answer

-- where the numbers were written, what comes of them; else what was answered
abbrev pub if_written : Answer → Answer → Answer
if_written answer.Written next = next
if_written (answer.Refused n) next = answer.Refused n
if_written (answer.Judged v) next = answer.Judged v

-- the reader's refusal, or what the verifier answers to the numbers
abbrev pub judged_by : SheetAnswer → List ℤ → Answer
judged_by read numbers = if_written (answer_of read) (judged_numbers (header_of read).sizes numbers)

-- the numbers' slice has the length that the header's sizes give, so that row 7 refuses no text
unfoldable pub judged : List ℕ → Answer
judged text = judged_by (reading (total (sizes_of (header_numbers text))) text) (body_numbers (sizes_of (header_numbers text)) text)

-- "at most 65536 bytes (longer: 12, before all else)"
unfoldable pub judged_text : List ℕ → Answer
judged_text text = cond (leb (length text) 65536) (judged text) (answer.Refused 12)

-- "one line of two such fields of 16 columns: kind (0 accepted, 1 failed, 2 refused) and number (the margin when accepted, the check that failed,
-- the row that refused)"
unfoldable pub verdict_line : Answer → List ℕ
verdict_line a = line_text (pos (kind_of a) ∷ pos (number_of a) ∷ [])
