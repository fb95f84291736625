use Rattle.std.proofs.Common.{◌*◌}
use Rattle.constraints.specs.ProjectedRows.{Summed}
use Rattle.constraints.proofs.projected_rows.add_groups.Given as goal

abbrev pub invariant-loop-group : goal.invariant-loop-group
invariant-loop-group l = Summed l.shape.d (l.shape.r * l.shape.n) l.w l.projections l.omega l.e (l.group * 4) l.acc
