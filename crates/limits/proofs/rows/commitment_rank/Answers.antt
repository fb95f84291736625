-- `limits::rows::commitment_rank` meets its contract: the test of the table, as comparisons. Assumes nothing.
use Rattle.fold.specs.Refusals.{commitment_rank}
use Rattle.limits.specs.Laws.RowLaws.{between-tests}
use Rattle.limits.proofs.rows.commitment_rank.Goals as goal

pub returns : goal.returns
unfolding commitment_rank
returns c = between-tests _ _ _
