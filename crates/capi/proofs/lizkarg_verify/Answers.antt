-- `capi::lizkarg_verify` meets its contract: the library call's. Assumes nothing.
use borrow.Author.Rules.{rules}
use mathlib.Core.Path.{ap, ◌∙◌}
use Rattle.capi.specs.Codes.{c_answer, code_of}
use Rattle.capi.proofs.lizkarg_verify.Goals as goal

pub returns : goal.returns
returns c = c.code.ensures ∙ ap c_answer c.from.ensures ∙ ap code_of (rw c.from-given.ensures at c.verify-answer.ensures)
