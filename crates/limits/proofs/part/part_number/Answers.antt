-- `limits::part::part_number` meets its contract. The loop's invariant: `left` of the part number after ν is taken off e times. Assumes nothing.
use native.Mathlib.Omega.{arith}
use Rattle.limits.specs.Laws.CountLaws.{part-zero, taken_start, taken_step, part_of_z, part_of_rest}
use Rattle.limits.proofs.part.part_number.Goals as goal

pub returns-then-part-eq0 : goal.returns-then-part-eq0
returns-then-part-eq0 c = part-zero _ _ _ _ c.if-part-eq0.true

pub loop-e-init : goal.loop-e-init
loop-e-init c = taken_start _ _ _ c.if-part-eq0.false

pub returns-then-left-nu : goal.returns-then-left-nu
returns-then-left-nu c = part_of_z _ _ _ _ c.loop-e.invariant c.loop-e-test.true c.if-left-nu.true

pub loop-e-preserved : goal.loop-e-preserved
loop-e-preserved c = taken_step _ _ _ c.loop-e.invariant c.loop-e-test.true c.if-left-nu.false

pub returns : goal.returns
returns c = part_of_rest _ _ _ _ c.loop-e.invariant c.loop-e-test.false
