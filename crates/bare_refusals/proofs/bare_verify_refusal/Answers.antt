-- `bare_refusals::bare_verify_refusal` meets its contract: the sizes, then row 7, then the rows after it.
use Rattle.std.proofs.Common.{refl, sym, ◌∙◌}
use Rattle.fold.specs.declared.answers.Refusal.TheVariants.{MixedProduct}
use Rattle.fold.specs.Rows.{row_of}
use Rattle.bare.specs.Refusals.{bare_verify_tests}
use Rattle.fold.specs.Laws.TestLaws.{passing, failing}
use Rattle.fold.specs.Laws.ResultLaws.{stopped, row_fails, row_holds, handed_on, required, last_row}
use Rattle.limits.specs.Laws.RowLaws.{end, ◌&◌, joined-row}
use Rattle.fold.specs.Laws.RefusalLaws.{sized-length}
use Rattle.limits.specs.Laws.StageLaws.{append-rows}
use Rattle.refusals.specs.Laws.FitLaws.{fitting}
use Rattle.bare.specs.Arguments.{constraint_sizes_of}
use Rattle.bare_refusals.specs.Bounds.{verify_bounds_of}
use Rattle.bare_refusals.specs.Known.Sized.{verify-sized}
use Rattle.bare_refusals.specs.Known.Constraints.{fitting-constraints}
use Rattle.bare_refusals.proofs.bare_verify_refusal.Goals as goal

pub returns-in_err-verify_bounds : goal.returns-in_err-verify_bounds
unfolding bare_verify_tests
returns-in_err-verify_bounds c =
    let a = c.args in handed_on row_of _ _ c.from_residual.ensures.1 (stopped (verify_bounds_of a.sizes) _ _ c.in_err-verify_bounds.ensures)

pub opened_lengths-requires : goal.opened_lengths-requires
opened_lengths-requires c = let l = verify-sized c.args.sizes c.in_ok-verify_bounds.ensures refl in (l.constraints.shaped, l.κ-small)

pub given_lengths-requires : goal.given_lengths-requires
given_lengths-requires c = let l = verify-sized c.args.sizes c.in_ok-verify_bounds.ensures refl in (l.constraints.shaped, l.κ-small)

pub constraint_lengths-requires : goal.constraint_lengths-requires
constraint_lengths-requires c = (verify-sized c.args.sizes c.in_ok-verify_bounds.ensures refl).constraints

pub constraint_ranges-requires : goal.constraint_ranges-requires
constraint_ranges-requires c = c.are_projection_entries-entries.ensures

pub challenges-rule-requires : goal.challenges-rule-requires
challenges-rule-requires c = sized-length _ _ (fitting _ (append-rows _ _ (append-rows _ _ c.opened_lengths.ensures c.given_lengths.ensures) c.constraint_lengths.ensures) c.in_ok-require.ensures.told).1.1.1.1.0

pub all_unmixed-products-requires : goal.all_unmixed-products-requires
all_unmixed-products-requires c =
    fitting-constraints (constraint_sizes_of c.args.sizes) _ _ _ _ _ _ _ (verify-sized c.args.sizes c.in_ok-verify_bounds.ensures refl).constraints
    (fitting _ (append-rows _ _ (append-rows _ _ c.opened_lengths.ensures c.given_lengths.ensures) c.constraint_lengths.ensures) c.in_ok-require.ensures.told).1.1.1.1.1

pub returns-in_err-require : goal.returns-in_err-require
unfolding bare_verify_tests
returns-in_err-require c =
    let a = c.args in
    required row_of _ c.from_residual-in_err-require.ensures.1 c.in_err-require.ensures.told
    (row_fails (verify_bounds_of a.sizes) 7 _ refl c.in_ok-verify_bounds.ensures (append-rows _ _ (append-rows _ _ c.opened_lengths.ensures c.given_lengths.ensures) c.constraint_lengths.ensures) c.in_err-require.ensures.told.0)

pub returns-in_err-require-2 : goal.returns-in_err-require-2
unfolding bare_verify_tests
returns-in_err-require-2 c =
    let a = c.args in
    required row_of _ c.from_residual-in_err-require-2.ensures.1 c.in_err-require-2.ensures.told
    (row_holds (verify_bounds_of a.sizes) 7 _ refl c.in_ok-verify_bounds.ensures (append-rows _ _ (append-rows _ _ c.opened_lengths.ensures c.given_lengths.ensures) c.constraint_lengths.ensures) c.in_ok-require.ensures.told
    (failing 8 _ (sym (append-rows _ _ (joined-row
    (c.are_coefficients.ensures & c.are_coefficients-2.ensures & c.are_coefficients-3.ensures & c.are_coefficients-4.ensures
    & c.are_coefficients-5.ensures & end)) c.constraint_ranges.ensures) ∙ c.in_err-require-2.ensures.told.0)))

pub returns-in_err-require-3 : goal.returns-in_err-require-3
unfolding bare_verify_tests
returns-in_err-require-3 c =
    let a = c.args in
    required row_of _ c.from_residual-in_err-require-3.ensures.1 c.in_err-require-3.ensures.told
    (row_holds (verify_bounds_of a.sizes) 7 _ refl c.in_ok-verify_bounds.ensures (append-rows _ _ (append-rows _ _ c.opened_lengths.ensures c.given_lengths.ensures) c.constraint_lengths.ensures) c.in_ok-require.ensures.told
    (passing 8 _ (sym (append-rows _ _ (joined-row
    (c.are_coefficients.ensures & c.are_coefficients-2.ensures & c.are_coefficients-3.ensures & c.are_coefficients-4.ensures
    & c.are_coefficients-5.ensures & end)) c.constraint_ranges.ensures) ∙ c.in_ok-require-2.ensures.told) (failing 9 _ (sym c.are_projection_entries-entries.ensures ∙ c.in_err-require-3.ensures.told.0))))

pub returns-in_err-require-4 : goal.returns-in_err-require-4
unfolding bare_verify_tests
returns-in_err-require-4 c =
    let a = c.args in
    required row_of _ c.from_residual-in_err-require-4.ensures.1 c.in_err-require-4.ensures.told
    (row_holds (verify_bounds_of a.sizes) 7 _ refl c.in_ok-verify_bounds.ensures (append-rows _ _ (append-rows _ _ c.opened_lengths.ensures c.given_lengths.ensures) c.constraint_lengths.ensures) c.in_ok-require.ensures.told
    (passing 8 _ (sym (append-rows _ _ (joined-row
    (c.are_coefficients.ensures & c.are_coefficients-2.ensures & c.are_coefficients-3.ensures & c.are_coefficients-4.ensures
    & c.are_coefficients-5.ensures & end)) c.constraint_ranges.ensures) ∙ c.in_ok-require-2.ensures.told) (passing 9 _ (sym c.are_projection_entries-entries.ensures ∙ c.in_ok-require-3.ensures.told) (failing 10 _ (sym c.challenges-rule.ensures ∙ c.in_err-require-4.ensures.told.0)))))

pub returns : goal.returns
unfolding bare_verify_tests
returns c =
    let a = c.args in
    row_holds (verify_bounds_of a.sizes) 7 _ refl c.in_ok-verify_bounds.ensures (append-rows _ _ (append-rows _ _ c.opened_lengths.ensures c.given_lengths.ensures) c.constraint_lengths.ensures) c.in_ok-require.ensures.told
    (passing 8 _ (sym (append-rows _ _ (joined-row
    (c.are_coefficients.ensures & c.are_coefficients-2.ensures & c.are_coefficients-3.ensures & c.are_coefficients-4.ensures
    & c.are_coefficients-5.ensures & end)) c.constraint_ranges.ensures) ∙ c.in_ok-require-2.ensures.told)
    (passing 9 _ (sym c.are_projection_entries-entries.ensures ∙ c.in_ok-require-3.ensures.told)
    (passing 10 _ (sym c.challenges-rule.ensures ∙ c.in_ok-require-4.ensures.told)
    (last_row row_of MixedProduct c.require-5.ensures.value c.all_unmixed-products.ensures))))
