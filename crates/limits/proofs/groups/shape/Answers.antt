-- `limits::groups::shape` meets its contract: n and r. Assumes nothing.
use mathlib.Core.Path.{refl}
use Rattle.limits.specs.Laws.RowLaws.{end, ◌&◌}
use Rattle.limits.specs.Laws.StageLaws.{joined-tests}
use Rattle.limits.proofs.groups.shape.Goals as goal

pub returns : goal.returns
returns c = joined-tests (c.rank.ensures & c.parts.ensures & end) refl
