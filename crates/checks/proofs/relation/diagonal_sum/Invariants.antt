use Rattle.std.proofs.Common.{◌≡◌}
use Rattle.algebra.specs.Triangle.{pair}
use Rattle.fold.specs.Opening.{block, garbage_of}
use Rattle.ring.specs.Laws.Loops.{Summed}
use Rattle.checks.proofs.relation.diagonal_sum.Given as goal

abbrev pub invariant-loop-i : goal.invariant-loop-i
invariant-loop-i l = Summed l.d l.r (λ i. garbage_of l.d l.r l.b l.t (block l.d l.opening l.place) i i) l.i
    l.acc.coefficients × (l.q ≡ pair l.r l.i l.i)
