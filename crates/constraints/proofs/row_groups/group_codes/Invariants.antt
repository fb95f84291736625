use Rattle.std.proofs.Common.{◌*◌}
use Rattle.constraints.specs.RowGroups.{CodesOf}
use Rattle.constraints.proofs.row_groups.group_codes.Given as goal

abbrev pub invariant-loop-g : goal.invariant-loop-g
invariant-loop-g l = CodesOf l.d (l.fn.shape.r * l.fn.shape.n) l.projections l.e l.g l.codes
