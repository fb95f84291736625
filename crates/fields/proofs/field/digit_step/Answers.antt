-- `fields::field::digit_step` meets its contract.
use Rattle.std.proofs.Common.{sym, arith}
use Rattle.fields.specs.Laws.ByteLaws.{other_step, high-step, digit-sum}
use Rattle.fields.proofs.field.digit_step.Goals as goal

pub returns-in_default : goal.returns-in_default
returns-in_default c = sym (other_step c.args.m c.args.byte (omega arith))

pub returns-in-48-to-57 : goal.returns-in-48-to-57
returns-in-48-to-57 c = sym (digit-sum c.args.m c.args.byte (omega arith) (omega arith))

pub returns-in_default-2 : goal.returns-in_default-2
returns-in_default-2 c = sym (high-step c.args.m c.args.byte (omega arith))
