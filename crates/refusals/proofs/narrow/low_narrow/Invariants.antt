use Prim.Native.Nat.{◌-◌, ◌*◌}
use lib.ListN.{take, drop}
use Rattle.residues.specs.Range.{all_narrow}
use Rattle.ring.specs.Laws.Loops.{Tested}
use Rattle.refusals.proofs.narrow.low_narrow.Given as goal

abbrev pub invariant-loop-i : goal.invariant-loop-i
invariant-loop-i l = Tested l.count (λ i. all_narrow l.base (take ((l.t - 1) * (l.rows * l.d)) (drop (i * (l.t * (l.rows * l.d))) (drop (l.place * l.d) l.xs)))) l.i l.all
