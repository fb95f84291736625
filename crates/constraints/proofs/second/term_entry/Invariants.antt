use Rattle.std.proofs.Common.{◌*◌}
use Rattle.constraints.specs.Laws.Terms.{term_summand}
use Rattle.ring.specs.Laws.Loops.{Summed}
use Rattle.constraints.proofs.second.term_entry.Given as goal

abbrev pub invariant-loop-j : goal.invariant-loop-j
invariant-loop-j l = Summed l.d l.l (term_summand l.d l.constant_terms l.psi l.step (l.k * l.l) l.e) l.j l.sum.coefficients
