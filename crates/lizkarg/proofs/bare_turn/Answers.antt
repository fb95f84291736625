-- `lizkarg::bare_turn` meets its contract: refused, or the four elements are written. Assumes nothing.
use Rattle.std.proofs.Common.{refl}
use mathlib.Core.Path.{sym, ◌∙◌}
use Rattle.bare.specs.Known.BareFacts.{bare_turn_facts}
use Rattle.fold.specs.Laws.ResultLaws.{row_nonzero}
use Rattle.lizkarg.specs.Laws.CallLaws.{refused_call, refused, kept, answers, writes}
use Rattle.lizkarg.proofs.bare_turn.Goals as goal

pub returns-in_err-bare_turn_refusal : goal.returns-in_err-bare_turn_refusal
returns-in_err-bare_turn_refusal c =
    rw (refused_call _ _ c.from_residual.ensures.1)
    (record { answer-is = refused _ c.in_err-bare_turn_refusal.ensures (row_nonzero _); turn_is = kept _ _ c.in_err-bare_turn_refusal.ensures (row_nonzero _) })

pub write_turn-requires : goal.write_turn-requires
write_turn-requires c = bare_turn_facts c.args.shape (sym c.in_ok-bare_turn_refusal.ensures)

pub returns : goal.returns
returns c =
    let none = sym c.in_ok-bare_turn_refusal.ensures in
    record { answer-is = answers _ none; turn_is = writes _ none c.write_turn.ensures }
