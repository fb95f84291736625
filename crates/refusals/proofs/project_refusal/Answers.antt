-- `refusals::project_refusal` meets its contract: the sizes, then row 7, then the rows after it.
use Rattle.std.proofs.Common.{refl, sym, ◌∙◌}
use Rattle.fold.specs.declared.answers.Refusal.TheVariants.{ProjectionEntry}
use Rattle.fold.specs.Rows.{row_of}
use Rattle.fold.specs.Refusals.{project_tests, project_bounds}
use Rattle.fold.specs.Laws.TestLaws.{passing, failing}
use Rattle.fold.specs.Laws.ResultLaws.{stopped, row_fails, row_holds, handed_on, required, last_row}
use Rattle.limits.specs.Laws.RowLaws.{end, ◌&◌, joined-row}
use Rattle.limits.specs.Known.StageLimits.{project-sized}
use Rattle.refusals.proofs.project_refusal.Goals as goal

pub returns-in_err-project_bounds : goal.returns-in_err-project_bounds
unfolding project_tests
returns-in_err-project_bounds c =
    let a = c.args in handed_on row_of _ _ c.from_residual.ensures.1 (stopped (project_bounds a.shape.d a.shape.n a.shape.r a.w) _ _ c.in_err-project_bounds.ensures)

pub project_lengths-fits-requires : goal.project_lengths-fits-requires
project_lengths-fits-requires c =
    let m = c.args.shape in project-sized m.d m.n m.r c.args.w c.in_ok-project_bounds.ensures refl

pub projections_in_range-requires : goal.projections_in_range-requires
projections_in_range-requires c = c.are_projection_entries-entries.ensures

pub returns-in_err-require : goal.returns-in_err-require
unfolding project_tests
returns-in_err-require c =
    let a = c.args in
    required row_of _ c.from_residual-in_err-require.ensures.1 c.in_err-require.ensures.told
    (row_fails (project_bounds a.shape.d a.shape.n a.shape.r a.w) 7 _ refl c.in_ok-project_bounds.ensures c.project_lengths-fits.ensures c.in_err-require.ensures.told.0)

pub returns-in_err-require-2 : goal.returns-in_err-require-2
unfolding project_tests
returns-in_err-require-2 c =
    let a = c.args in
    required row_of _ c.from_residual-in_err-require-2.ensures.1 c.in_err-require-2.ensures.told
    (row_holds (project_bounds a.shape.d a.shape.n a.shape.r a.w) 7 _ refl c.in_ok-project_bounds.ensures c.project_lengths-fits.ensures c.in_ok-require.ensures.told
    (failing 8 _ (sym ((joined-row (c.projections_in_range.ensures & c.are_coefficients.ensures & end))) ∙ c.in_err-require-2.ensures.told.0)))

pub returns : goal.returns
unfolding project_tests
returns c =
    let a = c.args in
    row_holds (project_bounds a.shape.d a.shape.n a.shape.r a.w) 7 _ refl c.in_ok-project_bounds.ensures c.project_lengths-fits.ensures c.in_ok-require.ensures.told
    (passing 8 _ (sym ((joined-row (c.projections_in_range.ensures & c.are_coefficients.ensures & end))) ∙ c.in_ok-require-2.ensures.told)
    (last_row row_of ProjectionEntry c.require-3.ensures.value c.are_projection_entries-entries.ensures))
