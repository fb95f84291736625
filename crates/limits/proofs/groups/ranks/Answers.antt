-- `limits::groups::ranks` meets its contract: κ and κ1. Assumes nothing.
use mathlib.Core.Path.{refl}
use Rattle.limits.specs.Laws.RowLaws.{end, ◌&◌}
use Rattle.limits.specs.Laws.StageLaws.{joined-tests}
use Rattle.limits.proofs.groups.ranks.Goals as goal

pub returns : goal.returns
returns c = joined-tests (c.commitment_rank.ensures & c.commitment_rank-2.ensures & end) refl
