use Rattle.std.proofs.Common.{[], get_or}
use Rattle.ring.specs.Element.{R, lift, same}
use Rattle.ring.specs.Laws.Loops.{Tested}
use Rattle.aggregation.proofs.rows.is_zero.Given as goal

abbrev pub invariant-loop-entry : goal.invariant-loop-entry
invariant-loop-entry l = Tested 5 (λ i. same l.d (lift l.d (get_or l.entry-items i [])) (R l.d).zero) l.entry-index l.all
