-- `limits::bounds::verify_bounds` meets its contract: rows 1 to 4, then row 6.
use Rattle.std.proofs.Common.{rules, refl, arith}
use Rattle.std.proofs.lemmas.Grind.{common_steps}
use Rattle.fold.specs.Answers.{first_failing}
use Rattle.fold.specs.Laws.ResultLaws.{stopped, gone_on}
use Rattle.limits.specs.Bounds.{size_rows_of, bound_rows_of}
use Rattle.limits.proofs.bounds.verify_bounds.Goals as goal

pub returns-in_err-size_rows : goal.returns-in_err-size_rows
returns-in_err-size_rows c = let m = c.args.sizes in let h = stopped (size_rows_of m) (bound_rows_of m) _ c.in_err-size_rows.ensures in grind (arith, common_steps, h)

pub returns : goal.returns
unfolding first_failing
returns c = let m = c.args.sizes in gone_on (size_rows_of m) (bound_rows_of m) refl c.in_ok-size_rows.ensures (search rules)
