-- `cases::lists::past_lists` meets its contract. Assumes nothing.
use Rattle.std.proofs.Common.{refl, add-one, ap, ◌∙◌}
use Rattle.cases.specs.Lists.{past_list, past_lists}
use Rattle.cases.proofs.lists.past_lists.Goals as goal

pub loop-i-init : goal.loop-i-init
unfolding past_lists
loop-i-init c = refl

pub loop-i-preserved : goal.loop-i-preserved
unfolding past_lists
loop-i-preserved c = rw (add-one c.loop-i._i) (c.past_list-rest.ensures ∙ ap past_list c.loop-i.invariant)
