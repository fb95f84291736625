use Rattle.ring.specs.Product.{summand}
use Rattle.ring.specs.Laws.ColumnLaws.{Running}
use Rattle.ring.proofs.product.columns.Given as goal

abbrev pub invariant-loop-i : goal.invariant-loop-i
invariant-loop-i l = Running l.d (summand l.a l.e l.start) l.i l.sum l.high × Running l.d (summand l.a l.e l.other) l.i l.sum2 l.high2
