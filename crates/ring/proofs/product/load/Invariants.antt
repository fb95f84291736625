use Rattle.ring.specs.Element.{el}
use Rattle.ring.specs.Product.{Residues}
use Rattle.ring.specs.Laws.Loops.{Counted}
use Rattle.ring.proofs.product.load.Given as goal

abbrev pub invariant-loop-i : goal.invariant-loop-i
invariant-loop-i l = Counted l.d (λ i. Residues l.d (el l.d l.u l.p) i l.a) l.i
