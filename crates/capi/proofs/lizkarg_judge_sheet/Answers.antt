-- `capi::lizkarg_judge_sheet` meets its contract: the judge's. Assumes nothing.
use borrow.Author.Rules.{rules}
use mathlib.Core.Path.{ap, ◌∙◌}
use Rattle.capi.specs.Codes.{c_answer, code_of}
use Rattle.capi.proofs.lizkarg_judge_sheet.Goals as goal

pub returns : goal.returns
returns c = c.code.ensures ∙ ap c_answer c.from.ensures ∙ ap code_of c.judge_sheet-answer.ensures
