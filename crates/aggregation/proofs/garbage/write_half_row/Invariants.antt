use Rattle.std.proofs.Common.{◌+◌, ◌-◌}
use Rattle.ring.specs.Laws.Writers.{Elements}
use Rattle.aggregation.specs.Garbage.{halved}
use Rattle.aggregation.proofs.garbage.write_half_row.Given as goal

abbrev pub invariant-loop-k : goal.invariant-loop-k
invariant-loop-k l = Elements l.d l.at (l.r - l.i) (λ k. halved l.d l.r l.products l.i (l.i + k)) l.initial.out l.k l.out
