-- `constraints::row_groups::weighted_sum` meets its contract.
use Rattle.std.proofs.Common.{to_z-of_z, w64}
use Rattle.constraints.specs.Laws.RowGroupLaws.{four_summands}
use Rattle.constraints.proofs.row_groups.weighted_sum.Goals as goal

pub returns : goal.returns
returns c =
    let f = c.add_summand-one in
    let g = c.add_summand-two in
    let h = c.add_summand-three in
    rw (to_z-of_z {w = w64} (record { sfits = c.add_summand.type_inv }))
    (four_summands _ _ _ f.type_inv g.type_inv h.type_inv f.ensures g.ensures h.ensures c.add_summand.ensures)
