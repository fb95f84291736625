-- `limits::groups::digits` meets its contract: b1, b2, t1 and t2. Assumes nothing.
use mathlib.Core.Path.{refl}
use Rattle.limits.specs.Laws.RowLaws.{end, ◌&◌}
use Rattle.limits.specs.Laws.StageLaws.{joined-tests}
use Rattle.limits.proofs.groups.digits.Goals as goal

pub returns : goal.returns
returns c = joined-tests (c.base.ensures & c.base-2.ensures & c.digit_count.ensures & c.digit_count-2.ensures & end) refl
