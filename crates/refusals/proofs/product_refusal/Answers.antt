-- `refusals::product_refusal` meets its contract: rows 1 and 8 in order.
use Rattle.std.proofs.Common.{sym, ◌∙◌}
use Rattle.fold.specs.declared.answers.Refusal.TheVariants.{Coefficient}
use Rattle.fold.specs.Rows.{row_of}
use Rattle.fold.specs.Refusals.{product_tests}
use Rattle.fold.specs.Laws.TestLaws.{passing, failing}
use Rattle.fold.specs.Laws.ResultLaws.{required, last_row}
use Rattle.limits.specs.Laws.RowLaws.{end, ◌&◌, joined-row}
use Rattle.refusals.proofs.product_refusal.Goals as goal

pub returns-in_err-require : goal.returns-in_err-require
unfolding product_tests
returns-in_err-require c =
    required row_of _ c.from_residual.ensures.1 c.in_err-require.ensures.told (failing 1 _ (sym c.degree.ensures ∙ c.in_err-require.ensures.told.0))

pub returns : goal.returns
unfolding product_tests
returns c =
    passing 1 _ (sym c.degree.ensures ∙ c.in_ok-require.ensures.told)
    (last_row row_of Coefficient c.require-2.ensures.value (joined-row (c.is_element.ensures & c.is_element-2.ensures & end)))
