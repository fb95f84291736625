-- `prover::amortize::write_folded` meets its contract. The loop's invariant: the first k elements of z are written.
use Rattle.std.proofs.Common.{refl}
use Rattle.fold.specs.Messages.{elements}
use Rattle.ring.specs.Laws.Writers.{elements-start, elements-turn, elements-end}
use Rattle.prover.proofs.amortize.write_folded.Goals as goal

pub loop-k-init : goal.loop-k-init
loop-k-init c = elements-start c.requires.d_in_bounds.2

pub loop-k-preserved : goal.loop-k-preserved
loop-k-preserved c =
    elements-turn c.loop-k.invariant c.requires.degree refl c.loop-k-test.true c.folded_element.ensures c.store.ensures

pub returns : goal.returns
unfolding elements
returns c = elements-end c.loop-k.invariant c.loop-k-test.false
