-- `limits::rows::length_bound` meets its contract: the test of the table, as comparisons. Assumes nothing.
use Rattle.fold.specs.Refusals.{length_bound}
use Rattle.limits.specs.Laws.RowLaws.{between-test}
use Rattle.limits.proofs.rows.length_bound.Goals as goal

pub returns : goal.returns
unfolding length_bound
returns c = between-test _ _
