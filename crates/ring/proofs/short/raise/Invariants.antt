use Rattle.ring.specs.Short.{Raised}
use Rattle.ring.specs.Laws.Loops.{Counted}
use Rattle.ring.proofs.short.raise.Given as goal

abbrev pub invariant-loop-i : goal.invariant-loop-i
invariant-loop-i l = Counted l.d (λ i. Raised l.d l.v l.p i l.e) l.i
