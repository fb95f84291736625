use Rattle.fold.specs.Messages.{t}
use Rattle.ring.specs.Laws.Writers.{Elements}
use Rattle.prover.proofs.commit.write_products.Given as goal

abbrev pub invariant-loop-k : goal.invariant-loop-k
invariant-loop-k l = Elements l.d l.at l.kappa (t l.d l.n l.a_matrix l.witness l.i) l.initial.block l.k l.block
