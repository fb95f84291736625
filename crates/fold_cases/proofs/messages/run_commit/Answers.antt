-- `fold_cases::messages::run_commit` meets its contract. Assumes nothing.
use Rattle.std.proofs.Common.{ap, ◌∙◌}
use Rattle.capi.specs.Codes.{code_of}
use Rattle.cases.specs.Laws.InputLaws.{room-is}
use Rattle.fold_cases.specs.Answers.{commit_answer}
use Rattle.fold_cases.proofs.messages.run_commit.Goals as goal

pub returns : goal.returns
unfolding commit_answer
returns c =
    let lists = c.args.lists.now in
    rw (
      ← room-is 4 0 lists c.past_lists-lengths.ensures c.count_at.ensures.0,
      ← room-is 4 1 lists c.past_lists-lengths.ensures c.count_at-2.ensures.0,
      ← room-is 4 2 lists c.past_lists-lengths.ensures c.count_at-3.ensures.0,
    )
    (c.commit.ensures.code_is ∙ ap code_of c.commit.ensures.promised.answer-is)
