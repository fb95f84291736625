-- `prover::garbage::write_pair_products` meets its contract. The loop's invariant: the first i rows are written.
use Rattle.std.proofs.Common.{arith}
use Rattle.fold.proofs.Laws.WriterLaws.{rows_start, rows_fit, rows-below, rows-turn, rows_end}
use Rattle.prover.proofs.garbage.write_pair_products.Goals as goal

pub loop-i-init : goal.loop-i-init
loop-i-init c = rows_start c.requires.n_le_most_rank.2

pub write_pair_row-requires-clause-n_le_most_rank : goal.write_pair_row-requires-clause-n_le_most_rank
write_pair_row-requires-clause-n_le_most_rank c =
    (c.requires.n_le_most_rank.0, omega arith, c.requires.n_le_most_rank.1, rows_fit c.loop-i.invariant c.loop-i-test.true)

pub overflow_add-at : goal.overflow_add-at
overflow_add-at c = omega (arith, rows-below c.loop-i.invariant c.requires.degree c.loop-i-test.true)

pub loop-i-preserved : goal.loop-i-preserved
loop-i-preserved c = rows-turn c.loop-i.invariant c.loop-i-test.true c.write_pair_row.ensures

pub returns : goal.returns
returns c = rows_end c.loop-i.invariant c.loop-i-test.false
