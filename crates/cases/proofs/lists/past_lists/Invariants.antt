use Rattle.std.proofs.Common.{◌≡◌}
use Rattle.cases.specs.Lists.{past_lists}
use Rattle.cases.proofs.lists.past_lists.Given as goal

abbrev pub invariant-loop-i : goal.invariant-loop-i
invariant-loop-i l = l.rest ≡ past_lists l._i l.xs
