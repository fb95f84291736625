use Rattle.refusals.specs.Laws.ListLaws.{Kept}
use Rattle.refusals.proofs.ranges.challenges.Given as goal

abbrev pub invariant-loop-i : goal.invariant-loop-i
invariant-loop-i l = Kept l.d l.r l.c l.all l.i
