use Rattle.ring.specs.Product.{summand}
use Rattle.ring.specs.Laws.ShortLaws.{Sized}
use Rattle.ring.proofs.short.columns.Given as goal

abbrev pub invariant-loop-i : goal.invariant-loop-i
invariant-loop-i l = Sized l.d l.c (summand l.a l.e l.start) l.i l.sum × Sized l.d l.c (summand l.a l.e l.other) l.i l.sum2
