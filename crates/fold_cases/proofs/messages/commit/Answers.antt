-- `fold_cases::messages::commit` meets its contract. Assumes nothing.
use Rattle.fold_cases.proofs.messages.commit.Goals as goal

pub returns : goal.returns
returns c =
    rw (
      ← c.commit_sizes.ensures,
      ← c.nth_list.ensures,
      ← c.nth_list-2.ensures,
      ← c.nth_list-3.ensures,
      ← c.nth_list-4.ensures,
    )
    c.lizkarg_commit-answer.ensures
