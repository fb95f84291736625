-- `refusals::commit_refusal` meets its contract: the sizes, then row 7, then the rows after it.
use Rattle.std.proofs.Common.{refl}
use Rattle.fold.specs.declared.answers.Refusal.TheVariants.{Coefficient}
use Rattle.fold.specs.Rows.{row_of}
use Rattle.fold.specs.Refusals.{commit_tests}
use Rattle.fold.specs.Laws.ResultLaws.{stopped, row_fails, row_holds, handed_on, required, last_row}
use Rattle.limits.specs.Bounds.{commit_bounds_of}
use Rattle.limits.specs.Laws.RowLaws.{end, ◌&◌, joined-row}
use Rattle.limits.specs.Known.StageLimits.{commit-sized}
use Rattle.refusals.proofs.commit_refusal.Goals as goal

pub returns-in_err-commit_bounds : goal.returns-in_err-commit_bounds
unfolding commit_tests
returns-in_err-commit_bounds c =
    handed_on row_of _ _ c.from_residual.ensures.1 (stopped (commit_bounds_of c.args.sizes) _ _ c.in_err-commit_bounds.ensures)

pub commit_lengths-fits-requires : goal.commit_lengths-fits-requires
commit_lengths-fits-requires c = commit-sized c.args.sizes c.in_ok-commit_bounds.ensures refl

pub returns-in_err-require : goal.returns-in_err-require
unfolding commit_tests
returns-in_err-require c =
    required row_of _ c.from_residual-in_err-require.ensures.1 c.in_err-require.ensures.told
    (row_fails (commit_bounds_of c.args.sizes) 7 _ refl c.in_ok-commit_bounds.ensures c.commit_lengths-fits.ensures c.in_err-require.ensures.told.0)

pub returns : goal.returns
unfolding commit_tests
returns c =
    row_holds (commit_bounds_of c.args.sizes) 7 _ refl c.in_ok-commit_bounds.ensures c.commit_lengths-fits.ensures c.in_ok-require.ensures.told
    (last_row row_of Coefficient c.require-2.ensures.value
    (joined-row (c.are_coefficients.ensures & c.are_coefficients-2.ensures & c.are_coefficients-3.ensures & c.are_coefficients-4.ensures & end)))
