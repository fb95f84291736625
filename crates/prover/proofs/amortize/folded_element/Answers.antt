-- `prover::amortize::folded_element` meets its contract. The loop's invariant: the sum is that over the first i parts.
use Rattle.algebra.specs.DotProduct.{folded}
use Rattle.ring.specs.Laws.Loops.{summed_start, summed_step, summed_end, held-product}
use Rattle.fold.specs.Statement.{part}
use Rattle.fold.specs.Messages.{z}
use Rattle.prover.proofs.amortize.folded_element.Goals as goal

pub loop-i-init : goal.loop-i-init
loop-i-init c = summed_start (c.additive_identity-sum.ensures _)

pub loop-i-preserved : goal.loop-i-preserved
loop-i-preserved c =
    let degree = c.requires.degree in
    summed_step c.loop-i.invariant degree c.loop-i-test.true
    (held-product _ _ degree.small c.from_slice-challenge.ensures c.from_slice-element.ensures c.product.ensures)
    c.sum-sum.ensures

pub returns : goal.returns
unfolding z folded part
returns c = summed_end c.loop-i.invariant c.loop-i-test.false
