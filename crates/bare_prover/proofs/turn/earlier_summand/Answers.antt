-- `bare_prover::turn::earlier_summand` meets its contract. Assumes nothing.
use Rattle.ring.specs.Laws.Loops.{held-product}
use Rattle.bare_prover.specs.Summands.{earlier_summand}
use Rattle.bare_prover.proofs.turn.earlier_summand.Goals as goal

pub returns : goal.returns
unfolding earlier_summand
returns c =
    held-product _ _ c.requires.parts.0.shaped.degree.small c.part_product-product.ensures c.from_slice.ensures
    c.product.ensures
