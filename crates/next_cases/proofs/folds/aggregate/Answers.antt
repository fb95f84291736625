-- `next_cases::folds::aggregate` meets its contract. Assumes nothing.
use Rattle.next_cases.specs.Laws.MessageLaws.{blank-inside, blank-fits}
use Rattle.next_cases.specs.Laws.RunLaws.{aggregating}
use Rattle.next_cases.proofs.folds.aggregate.Goals as goal

pub slice_bounds-room-end : goal.slice_bounds-room-end
slice_bounds-room-end c = blank-inside 32768 _ 6 c.size.ensures

pub slice_bounds-second_b-end : goal.slice_bounds-second_b-end
slice_bounds-second_b-end c = blank-fits 32768 _ 6 c.size.ensures

pub returns : goal.returns
returns c =
    aggregating c.nth_list.ensures c.nth_list-2.ensures c.nth_list-3.ensures c.nth_list-4.ensures
    c.size.ensures c.lizkarg_aggregate-answer.ensures
    c.keep.ensures
