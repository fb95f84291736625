-- `bare_prover::turn::part_product` meets its contract. Assumes nothing.
use Rattle.algebra.specs.DotProduct.{inner}
use Rattle.fold.specs.Statement.{part}
use Rattle.bare_prover.proofs.turn.part_product.Goals as goal

pub returns : goal.returns
unfolding inner part
returns c = c.inner.ensures
