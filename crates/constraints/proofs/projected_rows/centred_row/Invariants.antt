use Rattle.std.proofs.Common.{◌+◌, ◌*◌, get_or, replicate, pos}
use Rattle.integers.specs.Lists.{tab, upto}
use Rattle.residues.specs.Modulus.{centred}
use Rattle.ring.specs.Laws.Loops.{Filling}
use Rattle.constraints.proofs.projected_rows.centred_row.Given as goal

abbrev pub invariant-loop-k : goal.invariant-loop-k
invariant-loop-k l = Filling 5 5 (λ i. tab 64 (upto l.d (λ y. centred (get_or l.acc (y * 5 + i) (pos 0))) (pos 0))) (replicate 64 (pos 0)) l.k l.out
