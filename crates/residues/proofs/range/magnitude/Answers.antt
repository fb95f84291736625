-- `residues::range::magnitude` meets its contract: the bits of the sign turn a negative number over.
use mathlib.Core.Path.{◌≡◌, refl}
use mathlib.Core.Bool.{true}
use mir.Facts.{to_z-of_z, Fits-nat_abs}
use Rattle.residues.proofs.Laws.Words.{widen}
use Rattle.residues.proofs.Laws.AbsoluteValue.{turned-held, magnitude_fits}
use Rattle.residues.specs.StraightLine.{straight}
use Rattle.residues.proofs.range.magnitude.Code.Mir as code
use Rattle.residues.proofs.range.magnitude.Goals as goal

-- ---- SPECIFICATION 2.11
pub magnitude-straight : straight (code.function).body ≡ true
unfolding straight
magnitude-straight = refl

pub overflow_cast-wide : goal.overflow_cast-wide
overflow_cast-wide c = rw (to_z-of_z c.ranges.x) (widen c.ranges.x)

pub overflow_sub-result : goal.overflow_sub-result
overflow_sub-result c = rw (turned-held c.ranges.x) (magnitude_fits c.ranges.x)

pub overflow_cast-result : goal.overflow_cast-result
overflow_cast-result c = rw (turned-held c.ranges.x, to_z-of_z (magnitude_fits c.ranges.x)) (tt, Fits-nat_abs tt c.ranges.x)

pub returns : goal.returns
returns c = rw (turned-held c.ranges.x, to_z-of_z (magnitude_fits c.ranges.x)) refl
