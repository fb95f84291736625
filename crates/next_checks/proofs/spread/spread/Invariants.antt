use Rattle.next_checks.specs.Laws.SpreadLaws.{Spreading}
use Rattle.next_checks.proofs.spread.spread.Given as goal

abbrev pub invariant-loop-s : goal.invariant-loop-s
invariant-loop-s l = Spreading l.sizes l.cut l.initial.out l.at l.s l.start l.place l.out
