use Rattle.std.proofs.Common.{◌<◌}
use Rattle.sheet_cases.proofs.writer_cases.byte_sum.Given as goal

abbrev pub invariant-loop-i : goal.invariant-loop-i
invariant-loop-i l = l.sum < 2147483647
