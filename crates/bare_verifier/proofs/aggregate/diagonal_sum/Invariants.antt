use mathlib.Core.Path.{◌≡◌}
use Rattle.algebra.specs.Triangle.{pair}
use Rattle.ring.specs.Laws.Loops.{Summed}
use Rattle.bare_verifier.specs.Summands.{diagonal_summand}
use Rattle.bare_verifier.proofs.aggregate.diagonal_sum.Given as goal

abbrev pub invariant-loop-i : goal.invariant-loop-i
invariant-loop-i l = Summed l.d l.r (diagonal_summand l.d l.sizes.shape.n l.r l.sizes.k l.sizes.l l.sizes.kappa l.whole l.constant_terms l.psi l.alpha l.delta l.opening) l.i l.acc.coefficients
    × (l.q ≡ pair l.r l.i l.i)
