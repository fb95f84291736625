-- `bare_cases::messages::take_turn` meets its contract. Assumes nothing.
use Rattle.bare_cases.proofs.messages.take_turn.Goals as goal

pub returns : goal.returns
returns c =
    rw (
      ← c.nth_list.ensures,
      ← c.nth_list-2.ensures,
      ← c.nth_list-3.ensures,
    )
    c.lizkarg_bare_turn-answer.ensures
