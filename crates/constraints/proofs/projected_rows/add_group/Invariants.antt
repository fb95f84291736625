use Rattle.std.proofs.Common.{◌+◌, ◌*◌}
use Rattle.constraints.specs.Laws.AccumulatorLaws.{Turning}
use Rattle.constraints.specs.ProjectedRows.{partial}
use Rattle.constraints.proofs.projected_rows.add_group.Given as goal

abbrev pub invariant-loop-y : goal.invariant-loop-y
invariant-loop-y l =
    let shape = l.fn.shape in
    let sums = partial shape.d (shape.r * shape.n) l.w l.projections l.omega l.e in
    Turning shape.d (sums (l.group * 4)) (sums (l.group * 4 + 4)) (l.group * 4) 4 l.y l.acc
