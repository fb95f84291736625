-- What is known of the reader's answer, and what the judge makes of it.
use Rattle.std.specs.Prelude.{◌≡◌, List, ℕ, length, ℤ}
use Rattle.fold.specs.Arguments.{VerifySized}
use Rattle.fold.specs.Answers.{Answer}
use Rattle.fold.specs.Answers.{written}
use Rattle.sheet.specs.SheetAnswer.{SheetAnswer}
use Rattle.sheet.specs.SheetAnswer.{Sheet, Refused}
use Rattle.sheet.specs.Reading.{header_numbers, sizes_of, body_numbers, reading, reading_refusal}
use Rattle.judge.specs.Judging.{judged_by}

-- the sizes that were read passed the header's tests
abbrev pub ReadBounded : SheetAnswer → Type 0
ReadBounded (Refused n) = Unit {0}
ReadBounded (Sheet s) = VerifySized s.sizes

-- the answer to a text and the numbers of the slice afterwards, where the slice holds `before`
pub record Into (text : List ℕ) (before : List ℤ) (r : Answer) (after : List ℤ) : Type 0 where
  pub answer-is : r ≡ judged_by (reading (length before) text) (body_numbers (sizes_of (header_numbers text)) text)
  pub numbers_are : after ≡ written (reading_refusal text before) (body_numbers (sizes_of (header_numbers text)) text) before
