-- `sheet::header::header_refusal` meets its contract: the layout, then rows 1 to 6 of the sizes.
use Rattle.std.proofs.Common.{sym, ap, ◌∙◌}
use Rattle.fold.specs.Rows.{row_of}
use Rattle.fold.specs.Answers.{first_failing}
use Rattle.fold.specs.Laws.TestLaws.{passing, failing}
use Rattle.fold.specs.Laws.ResultLaws.{required}
use Rattle.sheet.specs.Laws.HeaderLaws.{header-sizes}
use Rattle.sheet.proofs.header.header_refusal.Goals as goal

pub returns-in_err-require : goal.returns-in_err-require
returns-in_err-require c =
    required row_of _ c.from_residual.ensures.1 c.in_err-require.ensures.told
    (failing 12 _ (sym c.header_laid.ensures ∙ c.in_err-require.ensures.told.0))

pub returns : goal.returns
returns c =
    passing 12 _ (sym c.header_laid.ensures ∙ c.in_ok-require.ensures.told)
    ((rw c.sheet_sizes-s.ensures at c.next_bounds.ensures) ∙ ap first_failing (header-sizes _))
