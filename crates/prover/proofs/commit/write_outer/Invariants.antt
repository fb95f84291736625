use Rattle.ring.specs.Laws.Writers.{Elements}
use Rattle.prover.specs.Outputs.{outer}
use Rattle.prover.proofs.commit.write_outer.Given as goal

abbrev pub invariant-loop-k : goal.invariant-loop-k
invariant-loop-k l = Elements l.d 0 l.rows (outer l.d l.m l.l l.b_matrix l.x l.c_matrix l.y) l.initial.out l.k l.out
