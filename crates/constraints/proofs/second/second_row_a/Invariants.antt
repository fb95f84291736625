use Rattle.std.proofs.Common.{replicate, pos}
use Rattle.ring.specs.Element.{array}
use Rattle.fold.specs.Entries.{second_a}
use Rattle.ring.specs.Laws.Loops.{Filling}
use Rattle.constraints.proofs.second.second_row_a.Given as goal

abbrev pub invariant-loop-k : goal.invariant-loop-k
invariant-loop-k l =
    Filling 5 5 (λ i. array l.shape.d (second_a l.shape.d l.shape.n l.shape.r l.l l.constant_terms l.psi i l.e))
    (replicate 64 (pos 0)) l.k l.row
