-- `limits::rows::projection_count` meets its contract: the test of the table, as comparisons. Assumes nothing.
use Rattle.fold.specs.Refusals.{projection_count}
use Rattle.limits.specs.Laws.RowLaws.{between-test}
use Rattle.limits.proofs.rows.projection_count.Goals as goal

pub returns : goal.returns
unfolding projection_count
returns c = between-test _ _
