-- `checks::indices::sum_of` meets its contract. The accumulator holds the sum of the summands so far.
use Rattle.ring.specs.Laws.Loops.{summed_start, summed_step, summed_end}
use Rattle.checks.proofs.indices.sum_of.Goals as goal

pub loop-i-init : goal.loop-i-init
loop-i-init g c = λ f e. summed_start (c.additive_identity-acc.ensures _)

pub loop-i-preserved : goal.loop-i-preserved
loop-i-preserved g c =
    λ f e.
    summed_step (c.loop-i.invariant f e) c.requires.degree c.loop-i-test.true (e _ c.loop-i-test.true _ c.summand.ensures) c.sum-acc.ensures

pub returns : goal.returns
returns g c = λ f e. summed_end (c.loop-i.invariant f e) c.loop-i-test.false
