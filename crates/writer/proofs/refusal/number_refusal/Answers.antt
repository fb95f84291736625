-- `writer::refusal::number_refusal` meets its contract.
use Rattle.std.proofs.Common.{sym, ap, ◌∙◌}
use Rattle.fold.specs.declared.answers.Refusal.TheVariants.{Challenge}
use Rattle.fold.specs.Rows.{row_of}
use Rattle.fold.specs.Laws.TestLaws.{passing, failing}
use Rattle.fold.specs.Laws.ResultLaws.{required, last_row}
use Rattle.sheet.specs.Reading.{number_tests}
use Prim.Native.Nat.{◌+◌, ◌≤◌}
use native.Mathlib.Omega.{arith}
use lib.ListN.{length}
use Rattle.residues.specs.Range.{projection_entries}
use Rattle.fold.specs.Refusals.{challenges}
use Rattle.writer.proofs.Laws.RefusalLaws.{rows_inside, challenges-inside, rows_are, challenges_are}
use Rattle.writer.proofs.refusal.number_refusal.Goals as goal

pub overflow_add-rows_end : goal.overflow_add-rows_end
overflow_add-rows_end c =
    let rows : c.projections_from-rows_start.result + c.projection_length.result ≤ length c.args.numbers.now = rows_inside _ _ c.requires c.projections_from-rows_start.ensures c.projection_length.ensures in
    omega (arith, rows)

pub overflow_add-c_end : goal.overflow_add-c_end
overflow_add-c_end c =
    let cs : c.challenges_from-c_start.result + c.list_length.result ≤ length c.args.numbers.now = challenges-inside _ _ c.requires c.challenges_from-c_start.ensures c.list_length.ensures in
    omega (arith, cs)

pub offset_bounds-numbers-rows_start : goal.offset_bounds-numbers-rows_start
offset_bounds-numbers-rows_start c =
    let rows : c.projections_from-rows_start.result + c.projection_length.result ≤ length c.args.numbers.now = rows_inside _ _ c.requires c.projections_from-rows_start.ensures c.projection_length.ensures in
    omega (arith, rows)

pub slice_bounds-are_projection_entries-end : goal.slice_bounds-are_projection_entries-end
slice_bounds-are_projection_entries-end c =
    let rows : c.projections_from-rows_start.result + c.projection_length.result ≤ length c.args.numbers.now = rows_inside _ _ c.requires c.projections_from-rows_start.ensures c.projection_length.ensures in
    omega (arith, rows)

pub offset_bounds-numbers-c_start : goal.offset_bounds-numbers-c_start
offset_bounds-numbers-c_start c =
    let cs : c.challenges_from-c_start.result + c.list_length.result ≤ length c.args.numbers.now = challenges-inside _ _ c.requires c.challenges_from-c_start.ensures c.list_length.ensures in
    omega (arith, cs)

pub slice_bounds-challenges-end : goal.slice_bounds-challenges-end
slice_bounds-challenges-end c =
    let cs : c.challenges_from-c_start.result + c.list_length.result ≤ length c.args.numbers.now = challenges-inside _ _ c.requires c.challenges_from-c_start.ensures c.list_length.ensures in
    omega (arith, cs)

pub returns-in_err-require : goal.returns-in_err-require
unfolding number_tests
returns-in_err-require c =
    required row_of _ c.from_residual.ensures.1 c.in_err-require.ensures.told
    (failing 8 _ (sym c.are_coefficients.ensures ∙ c.in_err-require.ensures.told.0))

pub returns-in_err-require-2 : goal.returns-in_err-require-2
unfolding number_tests
returns-in_err-require-2 c =
    required row_of _ c.from_residual-in_err-require-2.ensures.1 c.in_err-require-2.ensures.told
    (passing 8 _ (sym c.are_coefficients.ensures ∙ c.in_ok-require.ensures.told)
    (failing 9 _ (sym (c.are_projection_entries-entries.ensures
    ∙ ap projection_entries (rows_are c.args.s c.args.numbers.now c.projections_from-rows_start.ensures c.projection_length.ensures)) ∙ c.in_err-require-2.ensures.told.0)))

pub returns : goal.returns
unfolding number_tests
returns c =
    passing 8 _ (sym c.are_coefficients.ensures ∙ c.in_ok-require.ensures.told)
    (passing 9 _ (sym (c.are_projection_entries-entries.ensures
    ∙ ap projection_entries (rows_are c.args.s c.args.numbers.now c.projections_from-rows_start.ensures c.projection_length.ensures)) ∙ c.in_ok-require-2.ensures.told)
    (last_row row_of Challenge c.require-3.ensures.value (c.challenges-rule.ensures
    ∙ ap (challenges c.args.s.shape.d c.args.s.shape.r)
    (challenges_are c.args.s c.args.numbers.now c.challenges_from-c_start.ensures c.list_length.ensures))))
