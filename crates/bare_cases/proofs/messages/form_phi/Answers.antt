-- `bare_cases::messages::form_phi` meets its contract. Assumes nothing.
use Rattle.bare_cases.proofs.messages.form_phi.Goals as goal

pub returns : goal.returns
returns c =
    rw (
      ← c.constraint_sizes.ensures,
      ← c.nth_list.ensures,
      ← c.nth_list-2.ensures,
      ← c.nth_list-3.ensures,
      ← c.nth_list-4.ensures,
      ← c.nth_list-5.ensures,
      ← c.nth_list-6.ensures,
      ← c.nth_list-7.ensures,
    )
    c.lizkarg_bare_phi-answer.ensures
