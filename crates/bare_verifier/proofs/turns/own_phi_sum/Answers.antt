-- `bare_verifier::turns::own_phi_sum` meets its contract. The accumulator holds the summands so far. Assumes nothing.
use Rattle.ring.specs.Laws.Loops.{summed_start, summed_step}
use Rattle.bare_verifier.proofs.turns.own_phi_sum.Goals as goal

pub loop-i-init : goal.loop-i-init
loop-i-init c = summed_start (c.additive_identity-acc.ensures _)

pub loop-i-preserved : goal.loop-i-preserved
loop-i-preserved c =
    summed_step c.loop-i.invariant c.requires.shaped.degree c.loop-i-test.true
    c.turn_element.ensures c.sum-acc.ensures
