-- `next_cases::folds::amortize` meets its contract. Assumes nothing.
use Rattle.next_cases.specs.Laws.MessageLaws.{blank-inside, blank-fits}
use Rattle.next_cases.specs.Laws.RunLaws.{amortizing}
use Rattle.next_cases.proofs.folds.amortize.Goals as goal

pub slice_bounds-room-end : goal.slice_bounds-room-end
slice_bounds-room-end c = blank-inside 32768 _ 0 c.size.ensures

pub slice_bounds-z-end : goal.slice_bounds-z-end
slice_bounds-z-end c = blank-fits 32768 _ 0 c.size.ensures

pub returns : goal.returns
returns c =
    amortizing c.nth_list.ensures c.size.ensures c.call_amortize-answer.ensures
    c.keep.ensures
