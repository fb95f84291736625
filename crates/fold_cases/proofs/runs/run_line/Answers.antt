-- `fold_cases::runs::run_line` meets its contract. Assumes nothing.
use Rattle.fold_cases.specs.Answers.{line_answer}
use Rattle.fold_cases.proofs.runs.run_line.Goals as goal

pub returns : goal.returns
unfolding line_answer
returns c = rw (← c.numbers_of.ensures.words, ← c.numbers_of.ensures.wides) c.run_case.ensures
