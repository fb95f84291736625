use Rattle.fold.specs.Messages.{g}
use Rattle.fold.proofs.Laws.WriterLaws.{Rows}
use Rattle.prover.proofs.garbage.write_pair_products.Given as goal

abbrev pub invariant-loop-i : goal.invariant-loop-i
invariant-loop-i l = Rows l.d l.r (g l.d l.n l.witness) l.initial.out l.i l.at l.out
