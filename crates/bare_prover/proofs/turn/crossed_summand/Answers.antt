-- `bare_prover::turn::crossed_summand` meets its contract. Assumes nothing.
use Rattle.ring.specs.Laws.Loops.{held-sum, held-product}
use Rattle.bare_prover.specs.Summands.{crossed_summand}
use Rattle.bare_prover.proofs.turn.crossed_summand.Goals as goal

pub returns : goal.returns
unfolding crossed_summand
returns c =
    let small = c.requires.parts.0.shaped.degree.small in
    held-product _ _ small (held-sum _ _ small c.part_product-earlier.ensures c.part_product-later.ensures c.sum-both.ensures)
    c.from_slice-challenge.ensures c.product.ensures
