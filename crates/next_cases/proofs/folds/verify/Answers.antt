-- `next_cases::folds::verify` meets its contract: the call's, on the lists by their numbers. Assumes nothing.
use Rattle.next_cases.specs.Laws.RunLaws.{verdict_of_lem}
use Rattle.next_cases.proofs.folds.verify.Goals as goal

pub returns : goal.returns
returns c =
    let a = c.args in
    verdict_of_lem a.sizes a.lists.now a.whole.now a.lengths.now a.messages.now
    c.nth_list.ensures c.nth_list-2.ensures c.nth_list-3.ensures c.nth_list-4.ensures
    c.nth_list-5.ensures c.message.ensures c.nth_list-6.ensures c.message-2.ensures
    c.nth_list-7.ensures c.nth_list-8.ensures c.message-3.ensures c.nth_list-9.ensures
    c.nth_list-10.ensures c.message-4.ensures c.nth_list-11.ensures
    c.opening.ensures
    c.lizkarg_verify-answer.ensures
