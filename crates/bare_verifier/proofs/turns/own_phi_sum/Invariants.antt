use Rattle.ring.specs.Laws.Loops.{Summed}
use Rattle.bare.specs.Opening.{turn_at}
use Rattle.bare_verifier.proofs.turns.own_phi_sum.Given as goal

abbrev pub invariant-loop-i : goal.invariant-loop-i
invariant-loop-i l = Summed l.d l.sizes.shape.r (turn_at l.d l.sizes.shape.n l.sizes.shape.r l.sizes.kappa l.opening 1) l.i l.acc.coefficients
