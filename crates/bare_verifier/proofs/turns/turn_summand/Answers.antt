-- `bare_verifier::turns::turn_summand` meets its contract. Assumes nothing.
use Rattle.ring.specs.Laws.Loops.{held-sum, held-product}
use Rattle.bare_verifier.specs.Summands.{turn_summand}
use Rattle.bare_verifier.proofs.turns.turn_summand.Goals as goal

pub returns : goal.returns
unfolding turn_summand
returns c =
    let small = c.requires.bare_opening_facts.shaped.degree.small in
    held-sum _ _ small (held-product _ _ small c.turn_element-mixed.ensures c.from_slice-challenge.ensures c.product-once.ensures)
    (held-product _ _ small c.turn_element-own.ensures
    (held-product _ _ small c.from_slice-challenge.ensures c.from_slice-challenge.ensures c.product-square.ensures) c.product-twice.ensures)
    c.sum.ensures
