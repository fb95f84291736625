-- What the reader's promise says of a text that it takes.
--     read-passed                 no test fails
--     read-header, read-numbers   the header and the numbers are the text's
use Rattle.std.proofs.Math.Path.{◌≡◌, refl, ap}
use Rattle.std.specs.Prelude.{List, ℤ}
use Prim.Native.Nat.{ℕ, zero, suc}
use Rattle.std.proofs.Common.{arith}
use Rattle.fold.specs.Answers as answer
use Rattle.fold.specs.Answers.{kind_of, answered, written}
use Rattle.sheet.specs.declared.header.SheetSizes.{SheetSizes}
use Rattle.sheet.specs.SheetAnswer.{Sheet}
use Rattle.sheet.specs.Reading.{header_numbers, sizes_of, sheet_sizes_of, body_numbers, reading_refusal, SheetRead}

module _ {text : List ℕ} {numbers : List ℤ} {h : SheetSizes} {xs : List ℤ} (call : SheetRead text numbers (Sheet h) xs) where
  read-passed : reading_refusal text numbers ≡ 0
  unfolding answered
  read-passed = step (reading_refusal text numbers) call.answer-is
    where
      step : (n : ℕ) → answer.Written ≡ answered n answer.Written → n ≡ 0
      step zero e = refl
      step (suc n) e = let f : ◌≡◌ {A = ℕ} 3 2 = ap kind_of e in absurd (omega arith)

  pub read-header : h ≡ sheet_sizes_of (header_numbers text)
  read-header = rw read-passed at call.header_is

  pub read-numbers : xs ≡ body_numbers (sizes_of (header_numbers text)) text
  unfolding written
  read-numbers = rw read-passed at call.numbers_are
