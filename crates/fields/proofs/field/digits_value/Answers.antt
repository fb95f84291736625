-- `fields::field::digits_value` meets its contract. The loop's invariant: `value` is that of the digits among the first k bytes.
use Rattle.std.proofs.Common.{drop, arith}
use Rattle.fields.specs.Laws.FieldSteps.{value-start, value-next, value-below}
use Rattle.fields.proofs.field.digits_value.Goals as goal

pub loop-k-init : goal.loop-k-init
loop-k-init c = value-start (drop c.args.at c.args.text.now)

pub digit_step-value-requires : goal.digit_step-value-requires
digit_step-value-requires c = omega (arith, c.loop-k.invariant, value-below (drop c.args.at c.args.text.now) c.loop-k.k (omega arith))

pub loop-k-preserved : goal.loop-k-preserved
loop-k-preserved c = value-next c.args.text.now c.args.at c.loop-k.k (omega arith) c.loop-k.invariant c.digit_step-value.ensures
