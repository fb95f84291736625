-- `fold_cases::messages::run_amortize` meets its contract. Assumes nothing.
use Rattle.std.proofs.Common.{ap, ◌∙◌}
use Rattle.capi.specs.Codes.{code_of}
use Rattle.cases.specs.Laws.InputLaws.{room-is}
use Rattle.fold_cases.specs.Answers.{amortize_answer}
use Rattle.fold_cases.proofs.messages.run_amortize.Goals as goal

pub returns : goal.returns
unfolding amortize_answer
returns c =
    let lists = c.args.lists.now in
    rw (← room-is 2 0 lists c.past_lists.ensures c.count_at.ensures.0)
    (c.amortize.ensures.code_is ∙ ap code_of c.amortize.ensures.promised.answer-is)
