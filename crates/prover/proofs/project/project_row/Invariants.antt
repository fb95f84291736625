use Rattle.prover.specs.Laws.ProjectedLaws.{Dotted}
use Rattle.std.proofs.Common.{of_z, w64}
use Rattle.prover.proofs.project.project_row.Given as goal

abbrev pub invariant-loop-y : goal.invariant-loop-y
invariant-loop-y l = Dotted l.row l.witness l.y (of_z w64 l.acc)
