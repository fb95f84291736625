use Rattle.limits.specs.Laws.CountLaws.{TakenOff}
use Rattle.limits.proofs.part.part_number.Given as goal

abbrev pub invariant-loop-e : goal.invariant-loop-e
invariant-loop-e l = TakenOff l.tz l.nu l.part l.left l._e
