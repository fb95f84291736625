-- `aggregation::garbage::write_half_sums` meets its contract. The loop's invariant: the first i rows are written.
use Rattle.std.proofs.Common.{arith}
use Rattle.fold.proofs.Laws.WriterLaws.{rows_start, rows_fit, rows-below, rows-turn, rows_end}
use Rattle.aggregation.proofs.garbage.write_half_sums.Goals as goal

pub loop-i-init : goal.loop-i-init
loop-i-init c = rows_start c.requires.d_in_bounds.1

pub write_half_row-requires-clause-i_le_r : goal.write_half_row-requires-clause-i_le_r
write_half_row-requires-clause-i_le_r c = (omega arith, c.requires.d_in_bounds.0, rows_fit c.loop-i.invariant c.loop-i-test.true)

pub overflow_add-at : goal.overflow_add-at
overflow_add-at c = omega (arith, rows-below c.loop-i.invariant c.requires.degree c.loop-i-test.true)

pub loop-i-preserved : goal.loop-i-preserved
loop-i-preserved c = rows-turn c.loop-i.invariant c.loop-i-test.true c.write_half_row.ensures

pub returns : goal.returns
returns c = rows_end c.loop-i.invariant c.loop-i-test.false
