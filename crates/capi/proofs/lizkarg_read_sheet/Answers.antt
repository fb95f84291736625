-- `capi::lizkarg_read_sheet` meets its contract: the reader's. Assumes nothing.
use borrow.Author.Rules.{rules}
use mathlib.Core.Path.{ap, ◌∙◌}
use Rattle.sheet.specs.Laws.AnswerLaws.{read_is}
use Rattle.capi.specs.Codes.{sheet_code}
use Rattle.capi.proofs.lizkarg_read_sheet.Goals as goal

pub returns : goal.returns
returns c =
    let a = c.args in
    record {
      code_is = c.sheet_code.ensures ∙ ap sheet_code (read_is a.text.now a.numbers.now c.read_sheet-answer.ensures);
      numbers_are = c.read_sheet-answer.ensures.numbers_are;
    }
