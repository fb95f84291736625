use Rattle.ring.specs.Laws.Loops.{Summed}
use Rattle.bare_verifier.specs.Summands.{turn_summand}
use Rattle.bare_verifier.proofs.turns.turn_sum.Given as goal

abbrev pub invariant-loop-i : goal.invariant-loop-i
invariant-loop-i l = Summed l.d l.sizes.shape.r (turn_summand l.d l.sizes.shape.n l.sizes.shape.r l.sizes.kappa l.c l.opening l.e) l.i l.acc.coefficients
