-- `bare_cases::runs::run_case` meets its contract. Assumes nothing.
use Rattle.bare_cases.specs.Answers.{case_answer}
use Rattle.bare_cases.proofs.runs.run_case.Goals as goal

pub returns : goal.returns
unfolding case_answer
returns c =
    rw (← c.size-call.ensures, ← c.read_sizes-sizes.ensures, ← c.size_at-turn.ensures, ← c.past_numbers.ensures)
    c.run_call.ensures
