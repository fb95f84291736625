-- `limits::rows::degree` meets its contract: the test of the table, as comparisons. Assumes nothing.
use Rattle.limits.specs.Laws.RowLaws.{degree-tests}
use Rattle.limits.proofs.rows.degree.Goals as goal

pub returns : goal.returns
returns c = degree-tests _
