-- `next_cases::messages::keep` meets its contract. Assumes nothing.
use Rattle.next_cases.specs.Laws.MessageLaws.{start_fits, kept-is}
use lib.ListN.{length}
use Rattle.next_cases.proofs.messages.keep.Goals as goal

pub put-requires : goal.put-requires
put-requires c =
    let a = c.args in
    start_fits (length a.messages.now) a.lengths.now a.number c.total-start.ensures

pub returns : goal.returns
returns c =
    let a = c.args in
    kept-is a.messages.now a.lengths.now a.number a.xs.now c.total-start.ensures c.put.ensures.1
