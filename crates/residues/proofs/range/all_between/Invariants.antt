use Rattle.residues.proofs.Laws.RangeLaws.{Tested}
use Rattle.residues.proofs.range.all_between.Given as goal

abbrev pub invariant-loop-x : goal.invariant-loop-x
invariant-loop-x l = Tested l.low l.high l.xs l.x-index l.all
