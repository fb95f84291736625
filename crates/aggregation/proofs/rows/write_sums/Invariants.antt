use Rattle.ring.specs.Laws.Writers.{Elements}
use Rattle.aggregation.specs.Rows.{added}
use Rattle.aggregation.proofs.rows.write_sums.Given as goal

abbrev pub invariant-loop-k : goal.invariant-loop-k
invariant-loop-k l = Elements l.d 0 5 (added l.d l.first l.second) l.initial.out l.k l.out
