-- `fold_cases::messages::run_commit_garbage` meets its contract. Assumes nothing.
use Rattle.std.proofs.Common.{ap, ◌∙◌}
use Rattle.capi.specs.Codes.{code_of}
use Rattle.cases.specs.Laws.InputLaws.{room-is}
use Rattle.fold_cases.specs.Answers.{garbage_answer}
use Rattle.fold_cases.proofs.messages.run_commit_garbage.Goals as goal

pub returns : goal.returns
unfolding garbage_answer
returns c =
    let lists = c.args.lists.now in
    rw (
      ← room-is 9 0 lists c.past_lists-lengths.ensures c.count_at.ensures.0,
      ← room-is 9 1 lists c.past_lists-lengths.ensures c.count_at-2.ensures.0,
    )
    (c.commit_garbage.ensures.code_is ∙ ap code_of c.commit_garbage.ensures.promised.answer-is)
