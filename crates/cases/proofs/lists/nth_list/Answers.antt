-- `cases::lists::nth_list` meets its contract. Assumes nothing.
use Rattle.std.proofs.Common.{ap, ◌∙◌}
use Rattle.cases.specs.Lists.{first_list, nth_list}
use Rattle.cases.proofs.lists.nth_list.Goals as goal

pub returns : goal.returns
unfolding nth_list
returns c = c.first_list.ensures ∙ ap first_list c.past_lists.ensures
