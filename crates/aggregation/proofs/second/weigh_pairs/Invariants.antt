use Rattle.std.proofs.Common.{◌≡◌}
use Rattle.algebra.specs.Triangle.{pair}
use Rattle.aggregation.specs.Rows.{Sums}
use Rattle.aggregation.specs.Values.{pair_summand}
use Rattle.aggregation.proofs.second.weigh_pairs.Given as goal

abbrev pub invariant-loop-i : goal.invariant-loop-i
invariant-loop-i l = (l.at ≡ pair l.shape.r l.i l.i) × Sums l.shape.d
    (pair_summand l.shape.d l.shape.n l.shape.r l.l l.constant_terms l.psi l.witness) l.at l.sums
