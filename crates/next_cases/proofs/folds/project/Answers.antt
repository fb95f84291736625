-- `next_cases::folds::project` meets its contract. Assumes nothing.
use Rattle.next_cases.specs.Laws.MessageLaws.{blank-inside, blank-fits}
use Rattle.next_cases.specs.Laws.RunLaws.{projecting}
use Rattle.next_cases.proofs.folds.project.Goals as goal

pub slice_bounds-room-end : goal.slice_bounds-room-end
slice_bounds-room-end c = blank-inside 32768 _ 5 c.size.ensures

pub slice_bounds-p-end : goal.slice_bounds-p-end
slice_bounds-p-end c = blank-fits 32768 _ 5 c.size.ensures

pub returns : goal.returns
returns c =
    projecting c.nth_list.ensures c.size.ensures c.lizkarg_project-answer.ensures
    c.keep.ensures
