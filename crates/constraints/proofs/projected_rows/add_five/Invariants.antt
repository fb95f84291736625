use Rattle.std.proofs.Common.{◌+◌, get_or, pos}
use Rattle.constraints.specs.Accumulator.{AddedFive}
use Rattle.constraints.proofs.projected_rows.add_five.Given as goal

abbrev pub invariant-loop-k : goal.invariant-loop-k
invariant-loop-k l = AddedFive 8589934592 (λ i. get_or l.omega_sums (l.from + i) (pos 0)) l.at l.initial.acc l.k l.acc
