-- `cases::lists::first_list` meets its contract. Assumes nothing.
use Rattle.std.proofs.Common.{refl, sym, length-take-le}
use Rattle.cases.specs.Lists.{first_list}
use Rattle.cases.specs.Laws.ListLaws.{list-fits}
use Rattle.cases.proofs.lists.first_list.Goals as goal

pub slice_bounds-result-end : goal.slice_bounds-result-end
slice_bounds-result-end c = sym (length-take-le _ _ (list-fits c.args.xs.now c.first_size.ensures c.past_numbers.ensures))

pub returns : goal.returns
unfolding first_list
returns c = rw (c.first_size.ensures, c.past_numbers.ensures) refl
