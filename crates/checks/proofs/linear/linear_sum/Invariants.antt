use Rattle.std.proofs.Common.{◌≡◌, length}
use Rattle.fold.specs.Messages.{aggregate}
use Rattle.checks.specs.Relation.{linear_summand}
use Rattle.ring.specs.Laws.Loops.{Summed}
use Rattle.checks.proofs.linear.linear_sum.Given as goal

abbrev pub invariant-loop-i : goal.invariant-loop-i
invariant-loop-i l =
    let z = l.shape in
    (length l.phi ≡ 16384) × Summed z.d z.r (linear_summand z.d z.n
    (aggregate z.d z.n z.r l.sizes.k l.sizes.l l.sizes.w l.whole l.constant_terms l.projections l.psi l.omega l.alpha l.delta).φ l.c l.z)
    l.i l.acc.coefficients
