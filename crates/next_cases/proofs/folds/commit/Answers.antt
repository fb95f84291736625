-- `next_cases::folds::commit` meets its contract. Assumes nothing.
use Rattle.next_cases.specs.Laws.MessageLaws.{blank-inside, blank-fits, kept_again}
use Rattle.next_cases.specs.Laws.RunLaws.{committing}
use Rattle.next_cases.proofs.folds.commit.Goals as goal

pub slice_bounds-t_room-end : goal.slice_bounds-t_room-end
slice_bounds-t_room-end c = blank-inside 32768 _ 1 c.size.ensures

pub slice_bounds-t-end : goal.slice_bounds-t-end
slice_bounds-t-end c = blank-fits 32768 _ 1 c.size.ensures

pub slice_bounds-g_room-end : goal.slice_bounds-g_room-end
slice_bounds-g_room-end c = blank-inside 32768 _ 2 c.size-2.ensures

pub slice_bounds-g-end : goal.slice_bounds-g-end
slice_bounds-g-end c = blank-fits 32768 _ 2 c.size-2.ensures

pub slice_bounds-u1_room-end : goal.slice_bounds-u1_room-end
slice_bounds-u1_room-end c = blank-inside 32768 _ 4 c.size-3.ensures

pub slice_bounds-u1-end : goal.slice_bounds-u1-end
slice_bounds-u1-end c = blank-fits 32768 _ 4 c.size-3.ensures

pub returns : goal.returns
returns c =
    let a = c.args in
    let lengths = a.lengths.now in
    let call = c.lizkarg_commit-answer in
    committing {sizes = a.sizes} {s = a.witness.now} {lengths = lengths} {m = a.messages.now} {code = call.result}
    {lists = a.lists.now} c.nth_list.ensures c.nth_list-2.ensures
    c.nth_list-3.ensures c.size.ensures c.size-2.ensures c.size-3.ensures
    call.ensures
    (kept_again lengths 4 _ (kept_again lengths 2 _ c.keep.ensures c.keep-2.ensures) c.keep-3.ensures)
