use Rattle.std.proofs.Common.{◌*◌}
use Rattle.constraints.specs.ProjectedRows.{Summed}
use Rattle.constraints.proofs.projected_rows.add_rest.Given as goal

abbrev pub invariant-loop-j : goal.invariant-loop-j
invariant-loop-j l = Summed l.shape.d (l.shape.r * l.shape.n) l.w l.projections l.omega l.e l.j l.acc
