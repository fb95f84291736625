use Rattle.constraints.specs.Laws.RowGroupLaws.{Tabled}
use Rattle.constraints.proofs.row_groups.write_omega_sums.Given as goal

abbrev pub invariant-loop-i : goal.invariant-loop-i
invariant-loop-i l = Tabled l.w l.omega l.i l.omega_sums
