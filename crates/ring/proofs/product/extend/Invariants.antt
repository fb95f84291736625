use Rattle.ring.specs.Element.{el}
use Rattle.ring.specs.Product.{Extended}
use Rattle.ring.specs.Laws.Loops.{Counted}
use Rattle.ring.proofs.product.extend.Given as goal

abbrev pub invariant-loop-i : goal.invariant-loop-i
invariant-loop-i l = Counted l.d (λ i. Extended l.d (el l.d l.v l.p) i l.e) l.i
