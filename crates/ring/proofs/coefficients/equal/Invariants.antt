use Rattle.std.proofs.Common.{eqb, get_or, pos}
use Rattle.integers.specs.Remainder.{emod}
use Rattle.residues.specs.Modulus.{q}
use Rattle.ring.specs.Laws.Loops.{Tested}
use Rattle.ring.proofs.coefficients.equal.Given as goal

abbrev pub invariant-loop-k : goal.invariant-loop-k
invariant-loop-k l = Tested l.d (λ i. eqb (emod (get_or l.a i (pos 0)) q) (emod (get_or l.b i (pos 0)) q)) l.k l.all
