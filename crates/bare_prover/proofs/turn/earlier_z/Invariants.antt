use Rattle.ring.specs.Laws.Loops.{Summed}
use Rattle.bare_prover.specs.Summands.{earlier_summand}
use Rattle.bare_prover.proofs.turn.earlier_z.Given as goal

abbrev pub invariant-loop-j : goal.invariant-loop-j
invariant-loop-j l = Summed l.shape.d l.i (earlier_summand l.shape.d l.shape.n l.c l.witness l.i) l.j l.acc.coefficients
