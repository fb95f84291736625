-- `fields::walk::place_after` meets its contract.
use native.Mathlib.Omega.{arith}
use Rattle.fields.specs.Laws.WalkLaws.{walked_index, walked_fits, walked_step}
use Rattle.fields.proofs.walk.place_after.Goals as goal

pub overflow_add-from : goal.overflow_add-from
overflow_add-from c = omega (arith, walked_index c.loop-j.invariant c.loop-j-test.true)

pub overflow_add-here : goal.overflow_add-here
overflow_add-here c = omega (arith, walked_fits c.loop-j.invariant c.loop-j-test.true c.ends_line.ensures c.field_width-here.ensures)

pub loop-j-preserved : goal.loop-j-preserved
loop-j-preserved c = walked_step c.loop-j.invariant c.loop-j-test.true c.ends_line.ensures c.field_width-here.ensures
