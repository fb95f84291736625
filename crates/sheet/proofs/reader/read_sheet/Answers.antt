-- `sheet::reader::read_sheet` meets its contract.
use Rattle.std.proofs.Common.{arith}
use Rattle.sheet.specs.Laws.AnswerLaws.{row_positive, refused_read, read-refused, read_sheet, sheet_inside, sheet_coefficients, sheet_fits}
use Rattle.sheet.proofs.reader.read_sheet.Goals as goal

pub returns-in_err-sheet_refusal : goal.returns-in_err-sheet_refusal
returns-in_err-sheet_refusal c =
    let a = c.args in
    rw (refused_read _ _ c.from_residual.ensures.1) (read-refused a.text.now a.numbers.now c.in_err-sheet_refusal.ensures (row_positive _))

pub store-requires : goal.store-requires
store-requires c =
    let a = c.args in
    let passes = c.in_ok-sheet_refusal.ensures in
    let sizes = c.sheet_sizes-s.ensures in
    record {
      inside = sheet_inside a.text.now a.numbers.now passes (omega arith) sizes;
      text_value = sheet_coefficients a.text.now a.numbers.now passes (omega arith) sizes;
      numbers_len = sheet_fits a.text.now a.numbers.now passes (omega arith) sizes;
    }

pub returns : goal.returns
returns c =
    let a = c.args in
    read_sheet a.text.now a.numbers.now c.in_ok-sheet_refusal.ensures (omega arith) c.sheet_sizes-s.ensures c.store.ensures
