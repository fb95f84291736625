-- `limits::rows::digit_count` meets its contract: the test of the table, as comparisons. Assumes nothing.
use Rattle.fold.specs.Refusals.{digit_count}
use Rattle.limits.specs.Laws.RowLaws.{between-tests}
use Rattle.limits.proofs.rows.digit_count.Goals as goal

pub returns : goal.returns
unfolding digit_count
returns c = between-tests _ _ _
