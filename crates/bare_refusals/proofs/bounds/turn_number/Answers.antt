-- `bare_refusals::bounds::turn_number` meets its contract: the test of the table, as comparisons. Assumes nothing.
use Rattle.limits.specs.Laws.RowLaws.{between-tests}
use Rattle.bare_refusals.proofs.bounds.turn_number.Goals as goal

pub returns : goal.returns
returns c = between-tests _ _ _
