use Rattle.std.proofs.Common.{◌+◌, ◌*◌, get_or, pos, ◌*ℤ◌}
use Rattle.constraints.specs.Accumulator.{AddedFive}
use Rattle.constraints.proofs.projected_rows.add_entry.Given as goal

abbrev pub invariant-loop-k : goal.invariant-loop-k
invariant-loop-k l = AddedFive 2147483648 (λ i. get_or l.omega (i * l.w + l.j) (pos 0) *ℤ l.x) l.at l.initial.acc l.k l.acc
