-- What a reader answers: a sheet's sizes, or a refusal by its number.
use Rattle.std.specs.Prelude.{ℕ, Result, Ok, Err}
use Rattle.fold.specs.declared.answers.Refusal.{Refusal}
use Rattle.fold.specs.Rows.{row_of}
use Rattle.sheet.specs.declared.header.SheetSizes.{SheetSizes}

pub data SheetAnswer : Type 0 where
  Sheet : SheetSizes → SheetAnswer
  Refused : ℕ → SheetAnswer

-- the answer that a reader's result is
abbrev pub read_of : Result SheetSizes Refusal → SheetAnswer
read_of (Ok sizes) = Sheet sizes
read_of (Err r) = Refused (row_of r)
