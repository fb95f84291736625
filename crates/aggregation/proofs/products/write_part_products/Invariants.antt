use Rattle.ring.specs.Laws.Writers.{Elements}
use Rattle.aggregation.specs.Garbage.{part_product}
use Rattle.aggregation.proofs.products.write_part_products.Given as goal

abbrev pub invariant-loop-j : goal.invariant-loop-j
invariant-loop-j l = Elements l.d l.at l.r (part_product l.d l.n l.phi l.witness) l.initial.out l.j l.out
