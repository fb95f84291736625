-- `residues::modulus::residue` meets its contract: with q added the number is natural, and its remainder is the residue.
use mathlib.Core.Path.{◌≡◌, refl}
use mathlib.Core.Bool.{true}
use native.Mathlib.Omega.{arith}
use mir.Facts.{to_z-of_z, Fits-nat_abs}
use Rattle.residues.proofs.Laws.Words.{widen, wide}
use Rattle.residues.proofs.Laws.Centring.{quot_z_fits}
use Rattle.residues.proofs.Laws.ResidueSteps.{plus-q-fits, plus-q-held, residue_fits, residue_held}
use Rattle.residues.specs.StraightLine.{straight}
use Rattle.residues.proofs.modulus.residue.Code.Mir as code
use Rattle.residues.proofs.modulus.residue.Goals as goal

-- ---- SPECIFICATION 2.11
pub residue-straight : straight (code.function).body ≡ true
unfolding straight
residue-straight = refl

pub overflow_cast-wide : goal.overflow_cast-wide
overflow_cast-wide c = rw (to_z-of_z c.ranges.x) (widen c.ranges.x)

pub overflow_add-raised : goal.overflow_add-raised
overflow_add-raised c = rw (wide c.ranges.x) (plus-q-fits c.ranges.x)

pub nonzero_rem-result : goal.nonzero_rem-result
nonzero_rem-result c = rw (plus-q-held c.ranges.x) (omega arith, quot_z_fits 4294967197 _ (plus-q-fits c.ranges.x))

pub overflow_cast-result : goal.overflow_cast-result
overflow_cast-result c = rw (residue_held c.ranges.x) (tt, Fits-nat_abs tt (residue_fits c.args.x))

pub returns : goal.returns
returns c = rw (residue_held c.ranges.x) refl
