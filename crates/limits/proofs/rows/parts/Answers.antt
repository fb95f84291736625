-- `limits::rows::parts` meets its contract: the test of the table, as comparisons. Assumes nothing.
use Rattle.fold.specs.Refusals.{parts}
use Rattle.limits.specs.Laws.RowLaws.{between-tests}
use Rattle.limits.proofs.rows.parts.Goals as goal

pub returns : goal.returns
unfolding parts
returns c = between-tests _ _ _
