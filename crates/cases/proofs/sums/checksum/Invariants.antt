use Rattle.std.proofs.Common.{◌≡◌}
use Rattle.integers.specs.Remainder.{emod}
use Rattle.cases.specs.Sums.{weighted}
use Rattle.cases.proofs.sums.checksum.Given as goal

abbrev pub invariant-loop-i : goal.invariant-loop-i
invariant-loop-i l = l.sum ≡ emod (weighted l.i l.xs) 2147483647
