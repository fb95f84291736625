-- `limits::rows::base` meets its contract: the test of the table, as comparisons. Assumes nothing.
use Rattle.fold.specs.Refusals.{base}
use Rattle.limits.specs.Laws.RowLaws.{between-tests}
use Rattle.limits.proofs.rows.base.Goals as goal

pub returns : goal.returns
unfolding base
returns c = between-tests _ _ _
