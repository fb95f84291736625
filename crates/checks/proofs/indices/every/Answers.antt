-- `checks::indices::every` meets its contract. The tests so far hold.
use Rattle.ring.specs.Laws.Loops.{tested-start, tested-step, tested-end}
use Rattle.checks.proofs.indices.every.Goals as goal

pub loop-k-init : goal.loop-k-init
loop-k-init g c = λ p e. tested-start

pub loop-k-preserved : goal.loop-k-preserved
loop-k-preserved g c = λ p e. tested-step (c.loop-k.invariant p e) c.loop-k-test.true (e _ c.loop-k-test.true _ c.test-all.ensures)

pub returns : goal.returns
returns g c = λ p e. tested-end (c.loop-k.invariant p e) c.loop-k-test.false
