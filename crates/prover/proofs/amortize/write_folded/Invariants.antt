use Rattle.fold.specs.Messages.{z}
use Rattle.ring.specs.Laws.Writers.{Elements}
use Rattle.prover.proofs.amortize.write_folded.Given as goal

abbrev pub invariant-loop-k : goal.invariant-loop-k
invariant-loop-k l = Elements l.d l.at l.n (z l.d l.n l.r l.c l.witness) l.initial.out l.k l.out
