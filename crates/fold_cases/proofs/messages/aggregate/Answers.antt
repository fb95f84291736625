-- `fold_cases::messages::aggregate` meets its contract. Assumes nothing.
use Rattle.fold_cases.proofs.messages.aggregate.Goals as goal

pub returns : goal.returns
returns c =
    rw (
      ← c.nth_list.ensures,
      ← c.nth_list-2.ensures,
      ← c.nth_list-3.ensures,
      ← c.nth_list-4.ensures,
      ← c.nth_list-5.ensures,
    )
    c.lizkarg_aggregate-answer.ensures
