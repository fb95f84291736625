use Rattle.std.proofs.Common.{◌+◌, ◌-◌}
use Rattle.aggregation.specs.Rows.{Sums}
use Rattle.aggregation.specs.Values.{pair_summand}
use Rattle.ring.specs.Laws.Loops.{Counted}
use Rattle.aggregation.proofs.second.add_part_pairs.Given as goal

abbrev pub invariant-loop-k : goal.invariant-loop-k
invariant-loop-k l = Counted (l.shape.r - l.i) (λ k. Sums l.shape.d
    (pair_summand l.shape.d l.shape.n l.shape.r l.l l.constant_terms l.psi l.witness) (l.at + k) l.sums) l.k
