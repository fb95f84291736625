-- `fold_cases::runs::run_case` meets its contract. Assumes nothing.
use Rattle.fold_cases.specs.Answers.{case_answer}
use Rattle.fold_cases.proofs.runs.run_case.Goals as goal

pub returns : goal.returns
unfolding case_answer
returns c =
    rw (← c.size-number.ensures, ← c.two_digits-call.ensures, ← c.one_digit-one_digit.ensures, ← c.read_sizes-sizes.ensures, ← c.past_numbers.ensures)
    c.run_call.ensures
