-- `aggregation::rows::write_sums` meets its contract. The loop has written the first k elements.
use Rattle.std.proofs.Common.{sym, zero-add, arith}
use Rattle.fold.specs.Messages.{elements}
use Rattle.ring.specs.Laws.Writers.{elements_start₀, elements-turn, elements-all}
use Rattle.aggregation.specs.Rows.{added}
use Rattle.aggregation.proofs.rows.write_sums.Goals as goal

pub loop-k-init : goal.loop-k-init
loop-k-init c = elements_start₀ (omega (arith, c.requires.out_len))

pub loop-k-preserved : goal.loop-k-preserved
unfolding added
loop-k-preserved c =
    elements-turn c.loop-k.invariant c.requires.degree (sym (zero-add _)) c.loop-k-test.true
    c.added.ensures c.store.ensures

pub returns : goal.returns
unfolding elements
returns c = elements-all c.loop-k.invariant c.requires.out_len c.loop-k-test.false
