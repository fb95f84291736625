-- `aggregation::garbage::write_half_row` meets its contract. The loop's invariant: the h of the first k parts from i on are written.
use Rattle.std.proofs.Common.{refl}
use Rattle.fold.specs.Messages.{elements}
use Rattle.ring.specs.Laws.Writers.{elements-start, elements-turn, elements-end}
use Rattle.aggregation.proofs.garbage.write_half_row.Goals as goal

pub loop-k-init : goal.loop-k-init
loop-k-init c = elements-start c.requires.i_le_r.2

pub loop-k-preserved : goal.loop-k-preserved
loop-k-preserved c =
    elements-turn c.loop-k.invariant c.requires.degree refl c.loop-k-test.true
    c.half_sum.ensures c.store.ensures

pub returns : goal.returns
unfolding elements
returns c = elements-end c.loop-k.invariant c.loop-k-test.false
