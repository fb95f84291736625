-- `bare_verifier::folded::amortized` meets its contract. The rows so far are tested. Assumes nothing.
use Rattle.ring.specs.Laws.Loops.{tested-start, tested-step, tested-end}
use Rattle.fold.specs.Verdict.{check₅}
use Rattle.bare_verifier.proofs.folded.amortized.Goals as goal

pub loop-k-init : goal.loop-k-init
loop-k-init c = tested-start

pub loop-k-preserved : goal.loop-k-preserved
loop-k-preserved c = tested-step c.loop-k.invariant c.loop-k-test.true c.row_holds-all.ensures

pub returns : goal.returns
unfolding check₅
returns c = tested-end c.loop-k.invariant c.loop-k-test.false
