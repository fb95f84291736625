-- `fold_cases::messages::amortize` meets its contract. Assumes nothing.
use Rattle.fold_cases.proofs.messages.amortize.Goals as goal

pub returns : goal.returns
returns c = rw (← c.nth_list.ensures, ← c.nth_list-2.ensures) c.call_amortize-answer.ensures
