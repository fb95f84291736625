-- `fold_cases::messages::run_aggregate` meets its contract. Assumes nothing.
use Rattle.std.proofs.Common.{ap, ◌∙◌}
use Rattle.capi.specs.Codes.{code_of}
use Rattle.cases.specs.Laws.InputLaws.{room-is}
use Rattle.fold_cases.specs.Answers.{aggregate_answer}
use Rattle.fold_cases.proofs.messages.run_aggregate.Goals as goal

pub returns : goal.returns
unfolding aggregate_answer
returns c =
    let lists = c.args.lists.now in
    rw (← room-is 5 0 lists c.past_lists.ensures c.count_at.ensures.0)
    (c.aggregate.ensures.code_is ∙ ap code_of c.aggregate.ensures.promised.answer-is)
