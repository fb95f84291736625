use Rattle.ring.specs.Laws.ShortLaws.{Totalling}
use Rattle.ring.proofs.short.raised_weight.Given as goal

abbrev pub invariant-loop-i : goal.invariant-loop-i
invariant-loop-i l = Totalling l.d l.a l.sum l.i
