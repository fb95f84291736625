-- `bare_prover::turn::earlier_z` meets its contract. The accumulator holds the summands so far. Assumes nothing.
use Rattle.ring.specs.Laws.Loops.{summed_start, summed_step}
use Rattle.bare_prover.proofs.turn.earlier_z.Goals as goal

pub loop-j-init : goal.loop-j-init
loop-j-init c = summed_start (c.additive_identity-acc.ensures _)

pub loop-j-preserved : goal.loop-j-preserved
loop-j-preserved c =
    summed_step c.loop-j.invariant c.requires.parts.0.shaped.degree c.loop-j-test.true
    c.earlier_summand.ensures c.sum-acc.ensures
