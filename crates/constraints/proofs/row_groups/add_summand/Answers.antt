-- `constraints::row_groups::add_summand` meets its contract.
use Rattle.std.proofs.Common.{to_z-of_z}
use Rattle.constraints.specs.Laws.RowGroupLaws.{summand_of}
use Rattle.constraints.proofs.row_groups.add_summand.Goals as goal

pub returns : goal.returns
returns c =
    summand_of _ _ _ _ c.decoded.result c.add_signed-arg-1.given c.decoded.type_inv c.decoded.ensures
    c.add_signed.type_inv (rw (to_z-of_z c.ranges.sum) at c.add_signed.ensures)
