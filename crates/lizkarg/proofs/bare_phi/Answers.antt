-- `lizkarg::bare_phi` meets its contract: refused, or φ is written. Assumes nothing.
use Rattle.std.proofs.Common.{refl}
use mathlib.Core.Path.{sym, ◌∙◌}
use Rattle.bare.specs.Known.BareFacts.{bare_phi-facts}
use Rattle.fold.specs.Laws.ResultLaws.{row_nonzero}
use Rattle.lizkarg.specs.Laws.CallLaws.{refused_call, refused, kept, answers, writes}
use Rattle.lizkarg.proofs.bare_phi.Goals as goal

pub returns-in_err-bare_phi_refusal : goal.returns-in_err-bare_phi_refusal
returns-in_err-bare_phi_refusal c =
    rw (refused_call _ _ c.from_residual.ensures.1)
    (record { answer-is = refused _ c.in_err-bare_phi_refusal.ensures (row_nonzero _); phi-is = kept _ _ c.in_err-bare_phi_refusal.ensures (row_nonzero _) })

pub write_phi-requires : goal.write_phi-requires
write_phi-requires c = bare_phi-facts c.args.sizes (sym c.in_ok-bare_phi_refusal.ensures)

pub returns : goal.returns
returns c =
    let none = sym c.in_ok-bare_phi_refusal.ensures in
    record { answer-is = answers _ none; phi-is = writes _ none c.write_phi.ensures }
