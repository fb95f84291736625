use Rattle.std.proofs.Common.{◌+◌, ◌*◌, get_or, pos}
use Rattle.residues.specs.Modulus.{centred}
use Rattle.ring.specs.Laws.Loops.{Filling}
use Rattle.constraints.proofs.projected_rows.centred_element.Given as goal

abbrev pub invariant-loop-y : goal.invariant-loop-y
invariant-loop-y l = Filling 64 l.d (λ i. centred (get_or l.acc (i * 5 + l.k) (pos 0))) (pos 0) l.y l.out
