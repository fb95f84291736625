use Rattle.ring.specs.Element.{el}
use Rattle.fold.specs.Messages.{times}
use Rattle.ring.specs.Laws.Writers.{Elements}
use Rattle.aggregation.proofs.garbage.write_rows.Given as goal

abbrev pub invariant-loop-k : goal.invariant-loop-k
invariant-loop-k l = Elements l.d 0 l.rows (λ k. times l.d l.m l.matrix k (el l.d l.x)) l.initial.out l.k l.out
