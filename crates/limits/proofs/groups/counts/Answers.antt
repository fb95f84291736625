-- `limits::groups::counts` meets its contract: K, L and w. Assumes nothing.
use mathlib.Core.Path.{refl}
use Rattle.limits.specs.Laws.RowLaws.{end, ◌&◌}
use Rattle.limits.specs.Laws.StageLaws.{joined-tests}
use Rattle.limits.proofs.groups.counts.Goals as goal

pub returns : goal.returns
returns c = joined-tests (c.constraint_count.ensures & c.constraint_count-2.ensures & c.projection_count.ensures & end) refl
