-- `constraints::second::second_row_a` meets its contract: the projection rows have no a. The loop has written the first k entries.
use Rattle.std.proofs.Common.{arith}
use Rattle.fold.specs.Entries.{second_a}
use Rattle.ring.specs.Laws.Loops.{filling_start, filling_step, filling_all}
use Rattle.constraints.specs.Laws.SizeLaws.{function-parts}
use Rattle.constraints.proofs.second.second_row_a.Goals as goal

pub loop-k-init : goal.loop-k-init
loop-k-init c = filling_start

pub term_entry-requires-clause-k_bound : goal.term_entry-requires-clause-k_bound
term_entry-requires-clause-k_bound c =
    (omega arith, omega (arith, function-parts c.args.shape.n c.args.shape.r, c.requires.e_bound))

pub loop-k-preserved : goal.loop-k-preserved
unfolding second_a
loop-k-preserved c = filling_step c.loop-k.invariant (omega arith) (omega arith) c.term_entry.ensures

pub returns : goal.returns
returns c = filling_all c.loop-k.invariant (omega arith)
