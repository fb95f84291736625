-- `limits::groups::length_bounds` meets its contract: β² and β'². Assumes nothing.
use mathlib.Core.Path.{refl}
use Rattle.limits.specs.Laws.RowLaws.{end, ◌&◌}
use Rattle.limits.specs.Laws.StageLaws.{joined-tests}
use Rattle.limits.proofs.groups.length_bounds.Goals as goal

pub returns : goal.returns
returns c = joined-tests (c.length_bound.ensures & c.length_bound-2.ensures & end) refl
