-- `residues::length::lessen` meets its contract: a margin above stays above, and what is left of one within is compared. Assumes nothing.
use mathlib.Core.Path.{◌≡◌, refl}
use mathlib.Core.Bool.{false}
use Rattle.residues.specs.StraightLine.{straight}
use Rattle.residues.proofs.length.lessen.Code.Mir as code

-- ---- it branches, so it is not straight code
pub lessen-branches : straight (code.function).body ≡ false
unfolding straight
lessen-branches = refl
