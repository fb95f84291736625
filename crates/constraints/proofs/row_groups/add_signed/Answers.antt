-- `constraints::row_groups::add_signed` meets its contract: the product of two 32-bit numbers leaves room for the sum.
use Rattle.std.proofs.Common.{to_z-of_z}
use Rattle.residues.proofs.Laws.Words.{wide}
use Rattle.residues.proofs.Laws.Centring.{product-fits}
use Rattle.constraints.specs.Laws.RowGroupLaws.{signed_fits}
use Rattle.constraints.proofs.row_groups.add_signed.Goals as goal

pub overflow_add-result : goal.overflow_add-result
overflow_add-result c =
    let x = c.ranges.x in
    let y = c.ranges.y in
    rw (wide x, wide y, to_z-of_z (product-fits x y), to_z-of_z c.ranges.acc)
    (signed_fits c.args.acc c.args.x c.args.y c.requires x y)

pub returns : goal.returns
returns c =
    let x = c.ranges.x in
    let y = c.ranges.y in
    rw (wide x, wide y, to_z-of_z (product-fits x y), to_z-of_z c.ranges.acc)
    (to_z-of_z (signed_fits c.args.acc c.args.x c.args.y c.requires x y))
