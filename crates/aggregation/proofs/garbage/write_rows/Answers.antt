-- `aggregation::garbage::write_rows` meets its contract. The loop's invariant: the first k rows are written.
use Rattle.std.proofs.Common.{sym, zero-add, arith}
use Rattle.fold.specs.Messages.{elements}
use Rattle.ring.specs.Laws.Writers.{elements_start₀, elements-turn, elements-all}
use Rattle.aggregation.specs.Laws.GarbageLaws.{row-end}
use Rattle.ring.specs.Laws.ElementPlaces.{row_below}
use Rattle.aggregation.proofs.garbage.write_rows.Goals as goal

pub loop-k-init : goal.loop-k-init
loop-k-init c = elements_start₀ (omega (arith, c.requires.m_bound.3))

pub overflow_mul-k : goal.overflow_mul-k
overflow_mul-k c = omega (arith, row_below c.args.d c.args.m c.requires.degree.positive c.loop-k-test.true c.requires.m_bound.1)

pub loop-k-preserved : goal.loop-k-preserved
loop-k-preserved c =
    let a = c.args in
    elements-turn c.loop-k.invariant c.requires.degree (sym (zero-add _)) c.loop-k-test.true
    (row-end a.d a.m a.matrix.now a.x.now c.loop-k.k c.inner.ensures) c.store.ensures

pub returns : goal.returns
unfolding elements
returns c = elements-all c.loop-k.invariant c.requires.m_bound.3 c.loop-k-test.false
