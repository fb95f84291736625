-- `limits::next::next_bounds` meets its contract: rows 1 to 4, then rows 5 and 6.
use Rattle.std.proofs.Common.{rules, refl, arith}
use Rattle.std.proofs.lemmas.Grind.{common_steps}
use Rattle.fold.specs.Answers.{first_failing}
use Rattle.fold.specs.Refusals.{all_of}
use Rattle.fold.specs.Laws.ResultLaws.{stopped, gone_on}
use Rattle.limits.specs.Bounds.{size_rows_of, late_rows_of}
use Rattle.limits.proofs.next.next_bounds.Goals as goal

pub returns-in_err-size_rows : goal.returns-in_err-size_rows
returns-in_err-size_rows c =
    let a = c.args in let h = stopped (size_rows_of a.sizes) (late_rows_of a.tz a.sizes a.nu a.mu) _ c.in_err-size_rows.ensures in grind (arith, common_steps, h)

pub returns-in_err-require : goal.returns-in_err-require
unfolding first_failing all_of
returns-in_err-require c =
    let a = c.args in gone_on (size_rows_of a.sizes) (late_rows_of a.tz a.sizes a.nu a.mu) refl c.in_ok-size_rows.ensures (grind (arith, common_steps))

pub returns : goal.returns
unfolding first_failing all_of
returns c =
    let a = c.args in gone_on (size_rows_of a.sizes) (late_rows_of a.tz a.sizes a.nu a.mu) refl c.in_ok-size_rows.ensures (grind (arith, common_steps))
