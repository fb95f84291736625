-- `refusals::garbage_refusal` meets its contract: the sizes, then row 7, then the rows after it.
use Rattle.std.proofs.Common.{refl, sym, ◌∙◌}
use Rattle.fold.specs.declared.answers.Refusal.TheVariants.{ProjectionEntry}
use Rattle.fold.specs.Rows.{row_of}
use Rattle.fold.specs.Refusals.{garbage_tests}
use Rattle.fold.specs.Laws.TestLaws.{passing, failing}
use Rattle.fold.specs.Laws.ResultLaws.{stopped, row_fails, row_holds, handed_on, required, last_row}
use Rattle.limits.specs.Bounds.{garbage_bounds_of}
use Rattle.limits.specs.Laws.RowLaws.{end, ◌&◌, joined-row}
use Rattle.limits.specs.Laws.StageLaws.{append-rows}
use Rattle.limits.specs.Known.StageLimits.{garbage-sized}
use Rattle.refusals.specs.Known.ConstraintSized.{garbage-constraints}
use Rattle.refusals.proofs.garbage_refusal.Goals as goal

pub returns-in_err-garbage_bounds : goal.returns-in_err-garbage_bounds
unfolding garbage_tests
returns-in_err-garbage_bounds c =
    let a = c.args in handed_on row_of _ _ c.from_residual.ensures.1 (stopped (garbage_bounds_of a.sizes) _ _ c.in_err-garbage_bounds.ensures)

pub constraint_lengths-requires : goal.constraint_lengths-requires
constraint_lengths-requires c =
    let m = c.args.sizes in garbage-constraints m (garbage-sized m c.in_ok-garbage_bounds.ensures refl)

pub garbage_lengths-requires : goal.garbage_lengths-requires
garbage_lengths-requires c = garbage-sized c.args.sizes c.in_ok-garbage_bounds.ensures refl

pub constraint_ranges-requires : goal.constraint_ranges-requires
constraint_ranges-requires c = c.are_projection_entries-entries.ensures

pub returns-in_err-require : goal.returns-in_err-require
unfolding garbage_tests
returns-in_err-require c =
    let a = c.args in
    let fits = append-rows _ _ c.constraint_lengths.ensures c.garbage_lengths.ensures in
    required row_of _ c.from_residual-in_err-require.ensures.1 c.in_err-require.ensures.told
    (row_fails (garbage_bounds_of a.sizes) 7 _ refl c.in_ok-garbage_bounds.ensures fits c.in_err-require.ensures.told.0)

pub returns-in_err-require-2 : goal.returns-in_err-require-2
unfolding garbage_tests
returns-in_err-require-2 c =
    let a = c.args in
    let fits = append-rows _ _ c.constraint_lengths.ensures c.garbage_lengths.ensures in
    required row_of _ c.from_residual-in_err-require-2.ensures.1 c.in_err-require-2.ensures.told
    (row_holds (garbage_bounds_of a.sizes) 7 _ refl c.in_ok-garbage_bounds.ensures fits c.in_ok-require.ensures.told
    (failing 8 _ (sym ((append-rows _ _ c.constraint_ranges.ensures (joined-row (c.are_coefficients.ensures & c.are_coefficients-2.ensures & end)))) ∙ c.in_err-require-2.ensures.told.0)))

pub returns : goal.returns
unfolding garbage_tests
returns c =
    let a = c.args in
    let fits = append-rows _ _ c.constraint_lengths.ensures c.garbage_lengths.ensures in
    row_holds (garbage_bounds_of a.sizes) 7 _ refl c.in_ok-garbage_bounds.ensures fits c.in_ok-require.ensures.told
    (passing 8 _ (sym ((append-rows _ _ c.constraint_ranges.ensures (joined-row (c.are_coefficients.ensures & c.are_coefficients-2.ensures & end)))) ∙ c.in_ok-require-2.ensures.told)
    (last_row row_of ProjectionEntry c.require-3.ensures.value c.are_projection_entries-entries.ensures))
