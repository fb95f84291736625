use Rattle.std.proofs.Common.{◌+◌, ◌*◌}
use Rattle.ring.specs.Element.{R, el}
use Rattle.ring.specs.Laws.Loops.{Summed}
use Rattle.prover.proofs.amortize.folded_element.Given as goal

abbrev pub invariant-loop-i : goal.invariant-loop-i
invariant-loop-i l = Summed l.d l.r (λ i. (R l.d).mul (el l.d l.c i) (el l.d l.witness (i * l.n + l.k))) l.i l.sum.coefficients
