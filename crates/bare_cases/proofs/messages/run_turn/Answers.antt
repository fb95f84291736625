-- `bare_cases::messages::run_turn` meets its contract. Assumes nothing.
use Rattle.std.proofs.Common.{ap, ◌∙◌}
use Rattle.capi.specs.Codes.{code_of}
use Rattle.cases.specs.Laws.InputLaws.{room-is}
use Rattle.bare_cases.specs.Answers.{turn_answer}
use Rattle.bare_cases.proofs.messages.run_turn.Goals as goal

pub returns : goal.returns
unfolding turn_answer
returns c =
    let lists = c.args.lists.now in
    rw (← room-is 3 0 lists c.past_lists.ensures c.count_at.ensures.0)
    (c.take_turn.ensures.code_is ∙ ap code_of c.take_turn.ensures.promised.answer-is)
