use Rattle.residues.proofs.Laws.LengthLaws.{Compared}
use Rattle.residues.proofs.length.compare.Given as goal

abbrev pub invariant-loop-x : goal.invariant-loop-x
invariant-loop-x l = Compared l.bound l.xs l.rest l.x-index
