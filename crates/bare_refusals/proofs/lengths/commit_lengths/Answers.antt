-- `bare_refusals::lengths::commit_lengths` meets its contract: each list. Assumes nothing.
use mathlib.Core.Path.{refl}
use Rattle.limits.specs.Laws.RowLaws.{end, ◌&◌}
use Rattle.limits.specs.Laws.StageLaws.{joined-tests}
use Rattle.bare_refusals.proofs.lengths.commit_lengths.Goals as goal

pub returns : goal.returns
returns c = joined-tests (c.matrix_fits.ensures & c.matrix_fits-2.ensures & c.matrix_fits-3.ensures & end) refl
