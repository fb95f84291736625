-- `refusals::amortize_refusal` meets its contract: the sizes, then row 7, then the rows after it.
use Rattle.std.proofs.Common.{refl, sym, ◌∙◌}
use Rattle.fold.specs.declared.answers.Refusal.TheVariants.{Challenge}
use Rattle.fold.specs.Rows.{row_of}
use Rattle.fold.specs.Refusals.{amortize_tests, amortize_bounds}
use Rattle.fold.specs.Laws.TestLaws.{passing, failing}
use Rattle.fold.specs.Laws.ResultLaws.{stopped, row_fails, row_holds, handed_on, required, last_row}
use Rattle.limits.specs.Laws.RowLaws.{end, ◌&◌, joined-row}
use Rattle.limits.specs.Known.StageLimits.{amortize-sized}
use Rattle.fold.specs.Laws.RefusalLaws.{sized_iff}
use Rattle.refusals.specs.Laws.FitLaws.{fitting}
use Rattle.refusals.proofs.amortize_refusal.Goals as goal

pub returns-in_err-amortize_bounds : goal.returns-in_err-amortize_bounds
unfolding amortize_tests
returns-in_err-amortize_bounds c =
    let a = c.args in handed_on row_of _ _ c.from_residual.ensures.1 (stopped (amortize_bounds a.shape.d a.shape.n a.shape.r a.b) _ _ c.in_err-amortize_bounds.ensures)

pub amortize_lengths-fits-requires : goal.amortize_lengths-fits-requires
amortize_lengths-fits-requires c =
    let m = c.args.shape in record { tz_bound = c.requires; amortize_limits = amortize-sized m.d m.n m.r c.args.b c.in_ok-amortize_bounds.ensures refl }

pub challenges-requires : goal.challenges-requires
challenges-requires c = (sized_iff _ _).0 (fitting _ c.amortize_lengths-fits.ensures c.in_ok-require.ensures.told).0

pub returns-in_err-require : goal.returns-in_err-require
unfolding amortize_tests
returns-in_err-require c =
    let a = c.args in
    required row_of _ c.from_residual-in_err-require.ensures.1 c.in_err-require.ensures.told
    (row_fails (amortize_bounds a.shape.d a.shape.n a.shape.r a.b) 7 _ refl c.in_ok-amortize_bounds.ensures c.amortize_lengths-fits.ensures c.in_err-require.ensures.told.0)

pub returns-in_err-require-2 : goal.returns-in_err-require-2
unfolding amortize_tests
returns-in_err-require-2 c =
    let a = c.args in
    required row_of _ c.from_residual-in_err-require-2.ensures.1 c.in_err-require-2.ensures.told
    (row_holds (amortize_bounds a.shape.d a.shape.n a.shape.r a.b) 7 _ refl c.in_ok-amortize_bounds.ensures c.amortize_lengths-fits.ensures c.in_ok-require.ensures.told
    (failing 8 _ (sym ((joined-row (c.are_coefficients.ensures & c.are_coefficients-2.ensures & end))) ∙ c.in_err-require-2.ensures.told.0)))

pub returns : goal.returns
unfolding amortize_tests
returns c =
    let a = c.args in
    row_holds (amortize_bounds a.shape.d a.shape.n a.shape.r a.b) 7 _ refl c.in_ok-amortize_bounds.ensures c.amortize_lengths-fits.ensures c.in_ok-require.ensures.told
    (passing 8 _ (sym ((joined-row (c.are_coefficients.ensures & c.are_coefficients-2.ensures & end))) ∙ c.in_ok-require-2.ensures.told)
    (last_row row_of Challenge c.require-3.ensures.value c.challenges.ensures))
