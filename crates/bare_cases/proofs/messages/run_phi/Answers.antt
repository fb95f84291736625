-- `bare_cases::messages::run_phi` meets its contract. Assumes nothing.
use Rattle.std.proofs.Common.{ap, ◌∙◌}
use Rattle.capi.specs.Codes.{code_of}
use Rattle.cases.specs.Laws.InputLaws.{room-is}
use Rattle.bare_cases.specs.Answers.{phi_answer}
use Rattle.bare_cases.proofs.messages.run_phi.Goals as goal

pub returns : goal.returns
unfolding phi_answer
returns c =
    let lists = c.args.lists.now in
    rw (← room-is 7 0 lists c.past_lists.ensures c.count_at.ensures.0)
    (c.form_phi.ensures.code_is ∙ ap code_of c.form_phi.ensures.promised.answer-is)
