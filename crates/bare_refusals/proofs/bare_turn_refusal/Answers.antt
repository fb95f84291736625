-- `bare_refusals::bare_turn_refusal` meets its contract: the sizes, then row 7, then the rows after it.
use Rattle.std.proofs.Common.{refl, sym, ◌∙◌, arith}
use Rattle.fold.specs.declared.answers.Refusal.TheVariants.{Challenge}
use Rattle.fold.specs.Rows.{row_of}
use Rattle.bare.specs.Refusals.{bare_turn_tests, bare_turn_bounds}
use Rattle.fold.specs.Laws.TestLaws.{passing, failing}
use Rattle.fold.specs.Laws.ResultLaws.{stopped, row_fails, row_holds, handed_on, required, last_row}
use Rattle.limits.specs.Laws.RowLaws.{end, ◌&◌, joined-row}
use Rattle.fold.specs.Laws.RefusalLaws.{sized-length}
use Rattle.refusals.specs.Laws.FitLaws.{fitting}
use Rattle.bare_refusals.specs.Known.Sized.{turn-sized}
use Rattle.bare_refusals.proofs.bare_turn_refusal.Goals as goal

pub returns-in_err-turn_bounds : goal.returns-in_err-turn_bounds
unfolding bare_turn_tests
returns-in_err-turn_bounds c =
    let a = c.args in handed_on row_of _ _ c.from_residual.ensures.1 (stopped (bare_turn_bounds a.shape.d a.shape.n a.shape.r a.turn) _ _ c.in_err-turn_bounds.ensures)

pub turn_lengths-fits-requires : goal.turn_lengths-fits-requires
turn_lengths-fits-requires c =
    let all = turn-sized c.args.shape c.args.turn c.in_ok-turn_bounds.ensures refl in record { shaped = all.0; le_turn = all.1 }

pub overflow_sub-turn : goal.overflow_sub-turn
overflow_sub-turn c = omega (arith, (turn-sized c.args.shape c.args.turn c.in_ok-turn_bounds.ensures refl).1.0)

pub challenges-rule-requires : goal.challenges-rule-requires
challenges-rule-requires c = sized-length _ _ (fitting _ c.turn_lengths-fits.ensures c.in_ok-require.ensures.told).1.0

pub returns-in_err-require : goal.returns-in_err-require
unfolding bare_turn_tests
returns-in_err-require c =
    let a = c.args in
    required row_of _ c.from_residual-in_err-require.ensures.1 c.in_err-require.ensures.told
    (row_fails (bare_turn_bounds a.shape.d a.shape.n a.shape.r a.turn) 7 _ refl c.in_ok-turn_bounds.ensures c.turn_lengths-fits.ensures c.in_err-require.ensures.told.0)

pub returns-in_err-require-2 : goal.returns-in_err-require-2
unfolding bare_turn_tests
returns-in_err-require-2 c =
    let a = c.args in
    required row_of _ c.from_residual-in_err-require-2.ensures.1 c.in_err-require-2.ensures.told
    (row_holds (bare_turn_bounds a.shape.d a.shape.n a.shape.r a.turn) 7 _ refl c.in_ok-turn_bounds.ensures c.turn_lengths-fits.ensures c.in_ok-require.ensures.told
    (failing 8 _ (sym (joined-row (c.are_coefficients.ensures & c.are_coefficients-2.ensures & c.are_coefficients-3.ensures & end)) ∙ c.in_err-require-2.ensures.told.0)))

pub returns : goal.returns
unfolding bare_turn_tests
returns c =
    let a = c.args in
    row_holds (bare_turn_bounds a.shape.d a.shape.n a.shape.r a.turn) 7 _ refl c.in_ok-turn_bounds.ensures c.turn_lengths-fits.ensures c.in_ok-require.ensures.told
    (passing 8 _ (sym (joined-row (c.are_coefficients.ensures & c.are_coefficients-2.ensures & c.are_coefficients-3.ensures & end)) ∙ c.in_ok-require-2.ensures.told)
    (last_row row_of Challenge c.require-3.ensures.value c.challenges-rule.ensures))
