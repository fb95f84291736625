-- `bare_cases::messages::commit` meets its contract. Assumes nothing.
use Rattle.bare_cases.proofs.messages.commit.Goals as goal

pub returns : goal.returns
returns c = rw (← c.nth_list.ensures, ← c.nth_list-2.ensures) c.lizkarg_bare_commit-answer.ensures
