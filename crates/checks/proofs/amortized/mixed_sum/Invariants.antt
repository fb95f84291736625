use Rattle.std.proofs.Common.{◌≡◌}
use Rattle.algebra.specs.Triangle.{pair}
use Rattle.checks.specs.Mixed.{mixed_row}
use Rattle.ring.specs.Laws.Loops.{Summed}
use Rattle.checks.proofs.amortized.mixed_sum.Given as goal

abbrev pub invariant-loop-i : goal.invariant-loop-i
invariant-loop-i l = Summed l.d l.r (mixed_row l.d l.r l.b l.t l.place l.c l.opening) l.i l.acc.coefficients × (l.q ≡ pair l.r l.i l.i)
