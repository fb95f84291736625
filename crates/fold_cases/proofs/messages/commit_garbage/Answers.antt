-- `fold_cases::messages::commit_garbage` meets its contract. Assumes nothing.
use Rattle.fold_cases.proofs.messages.commit_garbage.Goals as goal

pub returns : goal.returns
returns c =
    rw (
      ← c.garbage_sizes.ensures,
      ← c.nth_list.ensures,
      ← c.nth_list-2.ensures,
      ← c.nth_list-3.ensures,
      ← c.nth_list-4.ensures,
      ← c.nth_list-5.ensures,
      ← c.nth_list-6.ensures,
      ← c.nth_list-7.ensures,
      ← c.nth_list-8.ensures,
      ← c.nth_list-9.ensures,
    )
    c.lizkarg_commit_garbage-answer.ensures
