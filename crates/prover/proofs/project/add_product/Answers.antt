-- `prover::project::add_product` meets its contract: the sum stays far from the limits of 64 bits.
use Rattle.std.proofs.Common.{to_z-of_z}
use Rattle.residues.proofs.Laws.Words.{wide}
use Rattle.residues.proofs.Laws.Centring.{product-fits}
use Rattle.prover.specs.Laws.ProjectedLaws.{summand-fits}
use Rattle.prover.proofs.project.add_product.Goals as goal

pub overflow_add-result : goal.overflow_add-result
overflow_add-result c =
    let x = c.ranges.x in
    let y = c.ranges.y in
    rw (wide x, wide y, to_z-of_z (product-fits x y), to_z-of_z c.ranges.acc)
    (summand-fits c.args.acc c.args.x c.args.y c.requires.0 c.requires.1 y)

pub returns : goal.returns
returns c =
    let x = c.ranges.x in
    let y = c.ranges.y in
    let fits = summand-fits c.args.acc c.args.x c.args.y c.requires.0 c.requires.1 y in
    rw (wide x, wide y, to_z-of_z (product-fits x y), to_z-of_z c.ranges.acc) (to_z-of_z fits)
