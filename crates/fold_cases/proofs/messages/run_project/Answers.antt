-- `fold_cases::messages::run_project` meets its contract. Assumes nothing.
use Rattle.std.proofs.Common.{ap, ◌∙◌}
use Rattle.capi.specs.Codes.{code_of}
use Rattle.cases.specs.Laws.InputLaws.{room-is}
use Rattle.fold_cases.specs.Answers.{project_answer}
use Rattle.fold_cases.proofs.messages.run_project.Goals as goal

pub returns : goal.returns
unfolding project_answer
returns c =
    let lists = c.args.lists.now in
    rw (← room-is 2 0 lists c.past_lists.ensures c.count_at.ensures.0)
    (c.project.ensures.code_is ∙ ap code_of c.project.ensures.promised.answer-is)
