use Rattle.std.proofs.Common.{◌*◌}
use Rattle.aggregation.specs.Rows.{Sums}
use Rattle.aggregation.specs.Values.{witness_summand}
use Rattle.ring.specs.Laws.Loops.{Counted}
use Rattle.aggregation.proofs.second.weigh_witness.Given as goal

abbrev pub invariant-loop-e : goal.invariant-loop-e
invariant-loop-e l = Counted (l.shape.r * l.shape.n) (λ e. Sums l.shape.d
    (witness_summand l.shape.d l.shape.n l.shape.r l.l l.w l.constant_terms l.projections l.psi l.omega l.witness) e l.sums) l.e
