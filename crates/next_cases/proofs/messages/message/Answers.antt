-- `next_cases::messages::message` meets its contract. Assumes nothing.
use lib.ListN.{length}
use Rattle.next_cases.specs.Laws.MessageLaws.{start_fits, message-inside, message-is}
use borrow.Author.Rules.{rules}
use Rattle.next_cases.proofs.messages.message.Goals as goal

pub overflow_sub-room : goal.overflow_sub-room
overflow_sub-room c =
    let a = c.args in
    start_fits (length a.messages.now) a.lengths.now a.number c.total-start.ensures

pub overflow_add-end : goal.overflow_add-end
overflow_add-end c =
    let a = c.args in
    let h = message-inside a.messages.now a.lengths.now a.number c.total-start.ensures c.size.ensures in
    search rules

pub offset_bounds-messages-start : goal.offset_bounds-messages-start
offset_bounds-messages-start c =
    let a = c.args in
    let h = message-inside a.messages.now a.lengths.now a.number c.total-start.ensures c.size.ensures in
    search rules

pub slice_bounds-result-end : goal.slice_bounds-result-end
slice_bounds-result-end c =
    let a = c.args in
    message-inside a.messages.now a.lengths.now a.number c.total-start.ensures c.size.ensures

pub returns : goal.returns
returns c =
    let a = c.args in
    message-is a.messages.now a.lengths.now a.number c.total-start.ensures c.size.ensures
