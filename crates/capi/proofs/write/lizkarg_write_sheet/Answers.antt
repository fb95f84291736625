-- `capi::write::lizkarg_write_sheet` meets its contract: the writer's.
use borrow.Author.Rules.{rules}
use mathlib.Core.Path.{ap, ◌∙◌}
use Rattle.sheet.specs.declared.header.SheetSizes.{SheetSizes}
use Rattle.writer.proofs.Laws.AnswerLaws.{write_is}
use Rattle.capi.specs.Codes.{sheet_sizes_from, text_code}
use Rattle.capi.proofs.write.lizkarg_write_sheet.Goals as goal

pub returns : goal.returns
returns c =
    let a = c.args in
    let h : SheetSizes = record { sizes = sheet_sizes_from a.sizes; nu = a.nu; mu = a.mu } in
    let written = rw c.from-given.ensures at c.write_sheet-answer.ensures in
    record {
      code_is = c.text_code.ensures ∙ ap text_code (write_is h a.numbers.now a.text.now written);
      bytes_are = written.bytes_are;
    }
