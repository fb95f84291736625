-- `bare_verifier::turns::turn_sum` meets its contract. The accumulator holds the summands so far. Assumes nothing.
use Rattle.ring.specs.Laws.Loops.{summed_start, summed_step, summed_end}
use Rattle.bare.specs.Verdict.{in_turn}
use Rattle.bare_verifier.specs.Summands.{turn_summand}
use Rattle.bare_verifier.proofs.turns.turn_sum.Goals as goal

pub loop-i-init : goal.loop-i-init
loop-i-init c = summed_start (c.additive_identity-acc.ensures _)

pub loop-i-preserved : goal.loop-i-preserved
loop-i-preserved c =
    summed_step c.loop-i.invariant c.requires.bare_opening_facts.shaped.degree c.loop-i-test.true
    c.turn_summand.ensures c.sum-acc.ensures

pub returns : goal.returns
unfolding in_turn turn_summand
returns c = summed_end c.loop-i.invariant c.loop-i-test.false
