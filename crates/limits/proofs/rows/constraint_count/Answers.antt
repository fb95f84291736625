-- `limits::rows::constraint_count` meets its contract: the test of the table, as comparisons. Assumes nothing.
use Rattle.fold.specs.Refusals.{constraint_count}
use Rattle.limits.specs.Laws.RowLaws.{between-test}
use Rattle.limits.proofs.rows.constraint_count.Goals as goal

pub returns : goal.returns
unfolding constraint_count
returns c = between-test _ _
