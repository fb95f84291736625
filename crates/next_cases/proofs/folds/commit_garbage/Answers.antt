-- `next_cases::folds::commit_garbage` meets its contract. Assumes nothing.
use Rattle.next_cases.specs.Laws.MessageLaws.{blank-inside, blank-fits, kept_again}
use Rattle.next_cases.specs.Laws.RunLaws.{garbage-committing}
use Rattle.next_cases.proofs.folds.commit_garbage.Goals as goal

pub slice_bounds-h_room-end : goal.slice_bounds-h_room-end
slice_bounds-h_room-end c = blank-inside 32768 _ 3 c.size.ensures

pub slice_bounds-h-end : goal.slice_bounds-h-end
slice_bounds-h-end c = blank-fits 32768 _ 3 c.size.ensures

pub slice_bounds-u2_room-end : goal.slice_bounds-u2_room-end
slice_bounds-u2_room-end c = blank-inside 32768 _ 7 c.size-2.ensures

pub slice_bounds-u2-end : goal.slice_bounds-u2-end
slice_bounds-u2-end c = blank-fits 32768 _ 7 c.size-2.ensures

pub returns : goal.returns
returns c =
    let a = c.args in
    let call = c.lizkarg_commit_garbage-answer in
    garbage-committing {sizes = a.sizes} {s = a.witness.now} {lengths = a.lengths.now} {m = a.messages.now}
    {code = call.result} {lists = a.lists.now} {whole = a.whole.now}
    c.nth_list.ensures c.nth_list-2.ensures c.nth_list-3.ensures c.nth_list-4.ensures c.nth_list-5.ensures c.nth_list-6.ensures c.nth_list-7.ensures
    c.size.ensures c.size-2.ensures
    call.ensures
    (kept_again a.lengths.now 7 _ c.keep.ensures c.keep-2.ensures)
