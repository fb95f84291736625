-- `limits::rows::rank` meets its contract: the test of the table, as comparisons. Assumes nothing.
use Rattle.fold.specs.Refusals.{rank}
use Rattle.limits.specs.Laws.RowLaws.{between-tests}
use Rattle.limits.proofs.rows.rank.Goals as goal

pub returns : goal.returns
unfolding rank
returns c = between-tests _ _ _
