-- `refusals::lengths::amortize_lengths` meets its contract: each list of message 5. Assumes nothing.
use mathlib.Core.Path.{refl}
use Rattle.limits.specs.Laws.RowLaws.{end, ◌&◌}
use Rattle.limits.specs.Laws.StageLaws.{joined-tests}
use Rattle.refusals.proofs.lengths.amortize_lengths.Goals as goal

pub returns : goal.returns
returns c = joined-tests (c.list_fits.ensures & c.matrix_fits.ensures & c.matrix_fits-2.ensures & end) refl
