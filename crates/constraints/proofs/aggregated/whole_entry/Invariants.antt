use Rattle.constraints.specs.Laws.Terms.{whole_summand}
use Rattle.ring.specs.Laws.Loops.{Summed}
use Rattle.constraints.proofs.aggregated.whole_entry.Given as goal

abbrev pub invariant-loop-k : goal.invariant-loop-k
invariant-loop-k l = Summed l.d l.kc (whole_summand l.d l.whole l.alpha l.step l.e) l.k l.sum.coefficients
