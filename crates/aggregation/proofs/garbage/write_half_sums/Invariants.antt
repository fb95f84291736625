use Rattle.fold.proofs.Laws.WriterLaws.{Rows}
use Rattle.aggregation.specs.Garbage.{halved}
use Rattle.aggregation.proofs.garbage.write_half_sums.Given as goal

abbrev pub invariant-loop-i : goal.invariant-loop-i
invariant-loop-i l = Rows l.d l.r (halved l.d l.r l.products) l.initial.out l.i l.at l.out
