-- `refusals::lengths::message_lengths` meets its contract: each message. Assumes nothing.
use mathlib.Core.Path.{refl}
use Rattle.limits.specs.Laws.RowLaws.{end, ◌&◌}
use Rattle.limits.specs.Laws.StageLaws.{joined-tests}
use Rattle.refusals.proofs.lengths.message_lengths.Goals as goal

pub returns : goal.returns
returns c = joined-tests (c.list_fits.ensures & c.sized.ensures & c.five_fit.ensures & c.list_fits-2.ensures & end) refl
