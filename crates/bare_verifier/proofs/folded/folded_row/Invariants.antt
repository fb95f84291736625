use Rattle.ring.specs.Element.{R, el}
use Rattle.ring.specs.Laws.Loops.{Summed}
use Rattle.bare.specs.Opening.{t_at}
use Rattle.bare_verifier.proofs.folded.folded_row.Given as goal

abbrev pub invariant-loop-i : goal.invariant-loop-i
invariant-loop-i l = Summed l.d l.sizes.shape.r (λ i. (R l.d).mul (el l.d l.c i) (t_at l.d l.sizes.shape.n l.sizes.shape.r l.sizes.kappa l.opening i l.k)) l.i l.acc.coefficients
