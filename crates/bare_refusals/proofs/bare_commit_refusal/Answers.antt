-- `bare_refusals::bare_commit_refusal` meets its contract: the sizes, then row 7, then row 8.
use Rattle.std.proofs.Common.{refl, sym, ◌∙◌}
use Rattle.fold.specs.declared.answers.Refusal.TheVariants.{Coefficient}
use Rattle.fold.specs.Rows.{row_of}
use Rattle.bare.specs.Refusals.{bare_commit_tests, bare_commit_bounds}
use Rattle.fold.specs.Laws.TestLaws.{passing, failing}
use Rattle.fold.specs.Laws.ResultLaws.{stopped, row_fails, row_holds, handed_on, required, last_row}
use Rattle.limits.specs.Laws.RowLaws.{end, ◌&◌, joined-row}
use Rattle.bare_refusals.specs.Known.Sized.{commit-sized}
use Rattle.bare_refusals.proofs.bare_commit_refusal.Goals as goal

pub returns-in_err-commit_bounds : goal.returns-in_err-commit_bounds
unfolding bare_commit_tests
returns-in_err-commit_bounds c =
    let a = c.args in handed_on row_of _ _ c.from_residual.ensures.1 (stopped (bare_commit_bounds a.shape.d a.shape.n a.shape.r a.kappa) _ _ c.in_err-commit_bounds.ensures)

pub commit_lengths-fits-requires : goal.commit_lengths-fits-requires
commit_lengths-fits-requires c = commit-sized c.args.shape c.args.kappa c.in_ok-commit_bounds.ensures refl

pub returns-in_err-require : goal.returns-in_err-require
unfolding bare_commit_tests
returns-in_err-require c =
    let a = c.args in
    required row_of _ c.from_residual-in_err-require.ensures.1 c.in_err-require.ensures.told
    (row_fails (bare_commit_bounds a.shape.d a.shape.n a.shape.r a.kappa) 7 _ refl c.in_ok-commit_bounds.ensures c.commit_lengths-fits.ensures c.in_err-require.ensures.told.0)

pub returns : goal.returns
unfolding bare_commit_tests
returns c =
    let a = c.args in
    row_holds (bare_commit_bounds a.shape.d a.shape.n a.shape.r a.kappa) 7 _ refl c.in_ok-commit_bounds.ensures c.commit_lengths-fits.ensures c.in_ok-require.ensures.told
    (last_row row_of Coefficient c.require-2.ensures.value (joined-row (c.are_coefficients.ensures & c.are_coefficients-2.ensures & end)))
