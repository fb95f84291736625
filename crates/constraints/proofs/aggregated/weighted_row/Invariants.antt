use Rattle.std.proofs.Common.{[], get_or}
use Rattle.ring.specs.Element.{R, lift, el}
use Rattle.ring.specs.Laws.Loops.{Summed}
use Rattle.constraints.proofs.aggregated.weighted_row.Given as goal

abbrev pub invariant-loop-k : goal.invariant-loop-k
invariant-loop-k l = Summed l.d 5 (λ i. (R l.d).mul (el l.d l.delta i) (lift l.d (get_or l.row i []))) l.k l.sum.coefficients
