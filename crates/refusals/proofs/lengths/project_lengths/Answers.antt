-- `refusals::lengths::project_lengths` meets its contract: each list of message 2. Assumes nothing.
use mathlib.Core.Path.{refl}
use native.Mathlib.Omega.{arith}
use Rattle.limits.specs.Laws.RowLaws.{end, ◌&◌}
use Rattle.limits.specs.Laws.StageLaws.{joined-tests}
use Rattle.refusals.proofs.lengths.project_lengths.Goals as goal

pub projections_fit-requires : goal.projections_fit-requires
projections_fit-requires c = (c.requires.shaped, c.requires.w-small)

pub matrix_fits-requires : goal.matrix_fits-requires
matrix_fits-requires c = let l = c.requires in (omega (arith, l.shaped.parts-small), omega (arith, l.shaped.rank-small), l.shaped.degree.small)

pub returns : goal.returns
returns c = joined-tests (c.projections_fit.ensures & c.matrix_fits.ensures & c.sized.ensures & end) refl
