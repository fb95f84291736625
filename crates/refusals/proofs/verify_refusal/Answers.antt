-- `refusals::verify_refusal` meets its contract: the sizes, then row 7, then the rows after it.
use Rattle.std.proofs.Common.{refl, sym, ◌∙◌, arith}
use Rattle.fold.specs.declared.answers.Refusal.TheVariants.{LowDigit}
use Rattle.fold.specs.Rows.{row_of}
use Rattle.fold.specs.Refusals.{verify_tests}
use Rattle.fold.specs.Laws.TestLaws.{passing, failing}
use Rattle.fold.specs.Laws.ResultLaws.{stopped, row_fails, row_holds, handed_on, required, last_row}
use Rattle.fold.specs.Laws.RefusalLaws.{sized-length}
use Rattle.limits.specs.Bounds.{verify_bounds_of}
use Rattle.limits.specs.Laws.RowLaws.{end, ◌&◌, joined-row}
use Rattle.limits.specs.Known.StageLimits.{verify-sized}
use Rattle.refusals.specs.Laws.FitLaws.{fitting, fitting-last, four-fit}
use Rattle.refusals.proofs.verify_refusal.Goals as goal

pub returns-in_err-verify_bounds : goal.returns-in_err-verify_bounds
unfolding verify_tests
returns-in_err-verify_bounds c =
    let a = c.args in handed_on row_of _ _ c.from_residual.ensures.1 (stopped (verify_bounds_of a.sizes) _ _ c.in_err-verify_bounds.ensures)

pub opening_fits-opened-requires : goal.opening_fits-opened-requires
opening_fits-opened-requires c =
    let l = verify-sized c.args.sizes c.in_ok-verify_bounds.ensures refl in
    let x = l.shaped in
    (omega (arith, c.requires), x.degree.small, x.rank-small, x.parts-small, l.κ-small, l.t₁-most, l.t₂-most)

pub message_lengths-requires : goal.message_lengths-requires
message_lengths-requires c = verify-sized c.args.sizes c.in_ok-verify_bounds.ensures refl

pub matrix_lengths-requires : goal.matrix_lengths-requires
matrix_lengths-requires c = verify-sized c.args.sizes c.in_ok-verify_bounds.ensures refl

pub draw_lengths-requires : goal.draw_lengths-requires
draw_lengths-requires c = verify-sized c.args.sizes c.in_ok-verify_bounds.ensures refl

pub constraint_ranges-requires : goal.constraint_ranges-requires
constraint_ranges-requires c = c.are_projection_entries-entries.ensures

pub challenges-rule-requires : goal.challenges-rule-requires
challenges-rule-requires c = sized-length _ _ (fitting-last _ (four-fit _ _ _ c.opening_fits-opened.ensures c.message_lengths.ensures c.matrix_lengths.ensures c.draw_lengths.ensures) c.in_ok-require.ensures.told)

pub narrow_digits-narrow-requires : goal.narrow_digits-narrow-requires
narrow_digits-narrow-requires c =
    record {
      tz_nonzero = c.requires;
      verify_sized = verify-sized c.args.sizes c.in_ok-verify_bounds.ensures refl;
      opening_len = sized-length _ _ (fitting _ (four-fit _ _ _ c.opening_fits-opened.ensures c.message_lengths.ensures c.matrix_lengths.ensures c.draw_lengths.ensures) c.in_ok-require.ensures.told).0;
    }

pub returns-in_err-require : goal.returns-in_err-require
unfolding verify_tests
returns-in_err-require c =
    let a = c.args in
    required row_of _ c.from_residual-in_err-require.ensures.1 c.in_err-require.ensures.told
    (row_fails (verify_bounds_of a.sizes) 7 _ refl c.in_ok-verify_bounds.ensures (four-fit _ _ _ c.opening_fits-opened.ensures c.message_lengths.ensures c.matrix_lengths.ensures c.draw_lengths.ensures) c.in_err-require.ensures.told.0)

pub returns-in_err-require-2 : goal.returns-in_err-require-2
unfolding verify_tests
returns-in_err-require-2 c =
    let a = c.args in
    required row_of _ c.from_residual-in_err-require-2.ensures.1 c.in_err-require-2.ensures.told
    (row_holds (verify_bounds_of a.sizes) 7 _ refl c.in_ok-verify_bounds.ensures (four-fit _ _ _ c.opening_fits-opened.ensures c.message_lengths.ensures c.matrix_lengths.ensures c.draw_lengths.ensures) c.in_ok-require.ensures.told
    (failing 8 _ (sym (four-fit _ _ _ c.are_coefficients.ensures c.message_ranges.ensures c.constraint_ranges.ensures (joined-row (c.are_coefficients-2.ensures & end))) ∙ c.in_err-require-2.ensures.told.0)))

pub returns-in_err-require-3 : goal.returns-in_err-require-3
unfolding verify_tests
returns-in_err-require-3 c =
    let a = c.args in
    required row_of _ c.from_residual-in_err-require-3.ensures.1 c.in_err-require-3.ensures.told
    (row_holds (verify_bounds_of a.sizes) 7 _ refl c.in_ok-verify_bounds.ensures (four-fit _ _ _ c.opening_fits-opened.ensures c.message_lengths.ensures c.matrix_lengths.ensures c.draw_lengths.ensures) c.in_ok-require.ensures.told
    (passing 8 _ (sym (four-fit _ _ _ c.are_coefficients.ensures c.message_ranges.ensures c.constraint_ranges.ensures (joined-row (c.are_coefficients-2.ensures & end))) ∙ c.in_ok-require-2.ensures.told) (failing 9 _ (sym c.are_projection_entries-entries.ensures ∙ c.in_err-require-3.ensures.told.0))))

pub returns-in_err-require-4 : goal.returns-in_err-require-4
unfolding verify_tests
returns-in_err-require-4 c =
    let a = c.args in
    required row_of _ c.from_residual-in_err-require-4.ensures.1 c.in_err-require-4.ensures.told
    (row_holds (verify_bounds_of a.sizes) 7 _ refl c.in_ok-verify_bounds.ensures (four-fit _ _ _ c.opening_fits-opened.ensures c.message_lengths.ensures c.matrix_lengths.ensures c.draw_lengths.ensures) c.in_ok-require.ensures.told
    (passing 8 _ (sym (four-fit _ _ _ c.are_coefficients.ensures c.message_ranges.ensures c.constraint_ranges.ensures (joined-row (c.are_coefficients-2.ensures & end))) ∙ c.in_ok-require-2.ensures.told) (passing 9 _ (sym c.are_projection_entries-entries.ensures ∙ c.in_ok-require-3.ensures.told) (failing 10 _ (sym c.challenges-rule.ensures ∙ c.in_err-require-4.ensures.told.0)))))

pub returns : goal.returns
unfolding verify_tests
returns c =
    let a = c.args in
    row_holds (verify_bounds_of a.sizes) 7 _ refl c.in_ok-verify_bounds.ensures (four-fit _ _ _ c.opening_fits-opened.ensures c.message_lengths.ensures c.matrix_lengths.ensures c.draw_lengths.ensures) c.in_ok-require.ensures.told
    (passing 8 _ (sym (four-fit _ _ _ c.are_coefficients.ensures c.message_ranges.ensures c.constraint_ranges.ensures (joined-row (c.are_coefficients-2.ensures & end))) ∙ c.in_ok-require-2.ensures.told)
    (passing 9 _ (sym c.are_projection_entries-entries.ensures ∙ c.in_ok-require-3.ensures.told)
    (passing 10 _ (sym c.challenges-rule.ensures ∙ c.in_ok-require-4.ensures.told)
    (last_row row_of LowDigit c.require-5.ensures.value c.narrow_digits-narrow.ensures))))
