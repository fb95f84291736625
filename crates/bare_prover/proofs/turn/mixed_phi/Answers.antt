-- `bare_prover::turn::mixed_phi` meets its contract. The accumulator holds the summands so far. Assumes nothing.
use Rattle.ring.specs.Laws.Loops.{summed_start, summed_step, summed_end}
use Rattle.bare.specs.Messages.{mixedΦ}
use Rattle.bare_prover.specs.Summands.{crossed_summand}
use Rattle.bare_prover.proofs.turn.mixed_phi.Goals as goal

pub loop-j-init : goal.loop-j-init
loop-j-init c = summed_start (c.additive_identity-acc.ensures _)

pub loop-j-preserved : goal.loop-j-preserved
loop-j-preserved c =
    summed_step c.loop-j.invariant c.requires.parts.0.shaped.degree c.loop-j-test.true
    c.crossed_summand.ensures c.sum-acc.ensures

pub returns : goal.returns
unfolding mixedΦ crossed_summand
returns c = summed_end c.loop-j.invariant c.loop-j-test.false
