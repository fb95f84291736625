-- `bare_cases::verification::run_verify` meets its contract. Assumes nothing.
use Rattle.bare_cases.specs.Answers.{verify_answer}
use Rattle.bare_cases.proofs.verification.run_verify.Goals as goal

pub returns : goal.returns
unfolding verify_answer
returns c =
    rw (
      ← c.nth_list.ensures,
      ← c.nth_list-2.ensures,
      ← c.nth_list-3.ensures,
      ← c.nth_list-4.ensures,
      ← c.nth_list-5.ensures,
      ← c.nth_list-6.ensures,
      ← c.nth_list-7.ensures,
      ← c.nth_list-8.ensures,
      ← c.nth_list-9.ensures,
      ← c.nth_list-10.ensures,
      ← c.nth_list-11.ensures,
      ← c.nth_list-12.ensures,
    )
    c.lizkarg_bare_verify-answer.ensures
