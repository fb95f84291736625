use Rattle.std.proofs.Common.{replicate, pos}
use Rattle.ring.specs.Element.{lift, array}
use Rattle.ring.specs.Laws.Loops.{Filling}
use Rattle.aggregation.specs.Rows.{plus_product}
use Rattle.aggregation.proofs.rows.add_products.Given as goal

abbrev pub invariant-loop-k : goal.invariant-loop-k
invariant-loop-k l = Filling 5 5 (λ i. array l.d (plus_product l.d l.sums l.row (lift l.d l.y) i)) (replicate 64 (pos 0)) l.k l.out
