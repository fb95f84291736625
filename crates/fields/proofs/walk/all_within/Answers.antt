-- `fields::walk::all_within` meets its contract.
use native.Mathlib.Omega.{arith}
use Rattle.fields.specs.Laws.WalkLaws.{walked_index, walked_fits, ranged_start, ranged_false, ranged_step}
use Rattle.fields.proofs.walk.all_within.Goals as goal

pub loop-j-init : goal.loop-j-init
loop-j-init c = ranged_start c.requires.span

pub returns-then-not-is_within : goal.returns-then-not-is_within
returns-then-not-is_within c = ranged_false c.loop-j.invariant c.loop-j-test.true c.is_within.ensures c.if-not-is_within.true

pub overflow_add-from : goal.overflow_add-from
overflow_add-from c = omega (arith, walked_index c.loop-j.invariant.walk c.loop-j-test.true)

pub overflow_add-here : goal.overflow_add-here
overflow_add-here c = omega (arith, walked_fits c.loop-j.invariant.walk c.loop-j-test.true c.ends_line.ensures c.field_width-here.ensures)

pub loop-j-preserved : goal.loop-j-preserved
loop-j-preserved c =
    ranged_step c.loop-j.invariant c.loop-j-test.true c.is_within.ensures
    c.if-not-is_within.false c.ends_line.ensures c.field_width-here.ensures
