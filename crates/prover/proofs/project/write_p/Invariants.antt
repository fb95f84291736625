use Rattle.std.proofs.Common.{◌*◌, length}
use Rattle.prover.specs.Laws.ProjectedLaws.{Projecting}
use Rattle.prover.proofs.project.write_p.Given as goal

abbrev pub invariant-loop-j : goal.invariant-loop-j
invariant-loop-j l = Projecting l.w l.projections l.witness l.initial.out l.j (l.j * length l.witness) l.out
