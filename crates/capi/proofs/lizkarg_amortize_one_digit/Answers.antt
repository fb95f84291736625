-- `capi::lizkarg_amortize_one_digit` meets its contract: the library call's. Assumes nothing.
use Rattle.std.proofs.Common.{ap, ◌∙◌}
use Rattle.capi.specs.Codes.{c_answer}
use Rattle.capi.proofs.lizkarg_amortize_one_digit.Goals as goal

pub returns : goal.returns
returns c = record { answer = _; code_is = c.code.ensures ∙ ap c_answer c.from.ensures; promised = rw c.from-given.ensures at c.amortize-answer.ensures }
