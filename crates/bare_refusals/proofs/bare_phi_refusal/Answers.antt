-- `bare_refusals::bare_phi_refusal` meets its contract: the sizes, then row 7, then the rows after it.
use Rattle.std.proofs.Common.{refl, sym, ◌∙◌, arith}
use Rattle.fold.specs.declared.answers.Refusal.TheVariants.{MixedProduct}
use Rattle.fold.specs.Rows.{row_of}
use Rattle.bare.specs.Refusals.{bare_phi_tests}
use Rattle.fold.specs.Laws.TestLaws.{passing, failing}
use Rattle.fold.specs.Laws.ResultLaws.{stopped, row_fails, row_holds, handed_on, required, last_row}
use Rattle.limits.specs.Laws.RowLaws.{end, ◌&◌, joined-row}
use Rattle.limits.specs.Laws.StageLaws.{append-rows}
use Rattle.refusals.specs.Laws.FitLaws.{fitting}
use Rattle.bare_refusals.specs.Bounds.{phi_bounds_of}
use Rattle.bare_refusals.specs.Known.Sized.{phi-sized}
use Rattle.bare_refusals.specs.Known.Constraints.{fitting-constraints}
use Rattle.bare_refusals.proofs.bare_phi_refusal.Goals as goal

pub returns-in_err-phi_bounds : goal.returns-in_err-phi_bounds
unfolding bare_phi_tests
returns-in_err-phi_bounds c =
    let a = c.args in handed_on row_of _ _ c.from_residual.ensures.1 (stopped (phi_bounds_of a.sizes) _ _ c.in_err-phi_bounds.ensures)

pub matrix_fits-requires : goal.matrix_fits-requires
matrix_fits-requires c =
    let shaped = (phi-sized c.args.sizes c.in_ok-phi_bounds.ensures refl).shaped in
    (omega (arith, shaped.parts-small), omega (arith, shaped.rank-small), shaped.degree.small)

pub constraint_lengths-requires : goal.constraint_lengths-requires
constraint_lengths-requires c = phi-sized c.args.sizes c.in_ok-phi_bounds.ensures refl

pub constraint_ranges-ranges-requires : goal.constraint_ranges-ranges-requires
constraint_ranges-ranges-requires c = c.are_projection_entries-entries.ensures

pub all_unmixed-products-requires : goal.all_unmixed-products-requires
all_unmixed-products-requires c =
    let m = c.args.sizes in
    fitting-constraints m _ _ _ _ _ _ _ (phi-sized m c.in_ok-phi_bounds.ensures refl) (fitting _ (append-rows _ _ (joined-row (c.matrix_fits.ensures & end)) c.constraint_lengths.ensures) c.in_ok-require.ensures.told).1

pub returns-in_err-require : goal.returns-in_err-require
unfolding bare_phi_tests
returns-in_err-require c =
    let a = c.args in
    required row_of _ c.from_residual-in_err-require.ensures.1 c.in_err-require.ensures.told
    (row_fails (phi_bounds_of a.sizes) 7 _ refl c.in_ok-phi_bounds.ensures (append-rows _ _ (joined-row (c.matrix_fits.ensures & end)) c.constraint_lengths.ensures) c.in_err-require.ensures.told.0)

pub returns-in_err-require-2 : goal.returns-in_err-require-2
unfolding bare_phi_tests
returns-in_err-require-2 c =
    let a = c.args in
    required row_of _ c.from_residual-in_err-require-2.ensures.1 c.in_err-require-2.ensures.told
    (row_holds (phi_bounds_of a.sizes) 7 _ refl c.in_ok-phi_bounds.ensures (append-rows _ _ (joined-row (c.matrix_fits.ensures & end)) c.constraint_lengths.ensures) c.in_ok-require.ensures.told
    (failing 8 _ (sym c.constraint_ranges-ranges.ensures ∙ c.in_err-require-2.ensures.told.0)))

pub returns-in_err-require-3 : goal.returns-in_err-require-3
unfolding bare_phi_tests
returns-in_err-require-3 c =
    let a = c.args in
    required row_of _ c.from_residual-in_err-require-3.ensures.1 c.in_err-require-3.ensures.told
    (row_holds (phi_bounds_of a.sizes) 7 _ refl c.in_ok-phi_bounds.ensures (append-rows _ _ (joined-row (c.matrix_fits.ensures & end)) c.constraint_lengths.ensures) c.in_ok-require.ensures.told
    (passing 8 _ (sym c.constraint_ranges-ranges.ensures ∙ c.in_ok-require-2.ensures.told) (failing 9 _ (sym c.are_projection_entries-entries.ensures ∙ c.in_err-require-3.ensures.told.0))))

pub returns : goal.returns
unfolding bare_phi_tests
returns c =
    let a = c.args in
    row_holds (phi_bounds_of a.sizes) 7 _ refl c.in_ok-phi_bounds.ensures (append-rows _ _ (joined-row (c.matrix_fits.ensures & end)) c.constraint_lengths.ensures) c.in_ok-require.ensures.told
    (passing 8 _ (sym c.constraint_ranges-ranges.ensures ∙ c.in_ok-require-2.ensures.told)
    (passing 9 _ (sym c.are_projection_entries-entries.ensures ∙ c.in_ok-require-3.ensures.told)
    (last_row row_of MixedProduct c.require-4.ensures.value c.all_unmixed-products.ensures)))
