-- `constraints::row_groups::code` meets its contract, by the digits.
use Rattle.std.proofs.Common.{arith, to_z-of_z}
use Rattle.constraints.specs.Laws.RowGroupLaws.{coded_by}
use Rattle.constraints.proofs.row_groups.code.Goals as goal

pub returns : goal.returns
returns c =
    coded_by _ _ _ _ _
    (rw (to_z-of_z c.ranges.x0) at c.entry_digit-4.ensures)
    (rw (to_z-of_z c.ranges.x1) at c.entry_digit-3.ensures)
    (rw (to_z-of_z c.ranges.x2) at c.entry_digit-2.ensures)
    (rw (to_z-of_z c.ranges.x3) at c.entry_digit.ensures)
    (omega arith)
