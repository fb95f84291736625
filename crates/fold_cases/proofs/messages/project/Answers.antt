-- `fold_cases::messages::project` meets its contract. Assumes nothing.
use Rattle.fold_cases.proofs.messages.project.Goals as goal

pub returns : goal.returns
returns c = rw (← c.nth_list.ensures, ← c.nth_list-2.ensures) c.lizkarg_project-answer.ensures
