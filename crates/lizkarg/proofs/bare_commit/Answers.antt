-- `lizkarg::bare_commit` meets its contract: refused, or t is written. Assumes nothing.
use Rattle.std.proofs.Common.{refl}
use mathlib.Core.Path.{sym, ◌∙◌}
use Rattle.bare.specs.Known.BareFacts.{bare_commit_facts}
use Rattle.fold.specs.Laws.ResultLaws.{row_nonzero}
use Rattle.lizkarg.specs.Laws.CallLaws.{refused_call, refused, kept, answers, writes}
use Rattle.lizkarg.proofs.bare_commit.Goals as goal

pub returns-in_err-bare_commit_refusal : goal.returns-in_err-bare_commit_refusal
returns-in_err-bare_commit_refusal c =
    rw (refused_call _ _ c.from_residual.ensures.1)
    (record { answer-is = refused _ c.in_err-bare_commit_refusal.ensures (row_nonzero _); t-is = kept _ _ c.in_err-bare_commit_refusal.ensures (row_nonzero _) })

pub write_t-requires : goal.write_t-requires
write_t-requires c = bare_commit_facts c.args.shape (sym c.in_ok-bare_commit_refusal.ensures)

pub returns : goal.returns
returns c =
    let none = sym c.in_ok-bare_commit_refusal.ensures in
    record { answer-is = answers _ none; t-is = writes _ none c.write_t.ensures }
