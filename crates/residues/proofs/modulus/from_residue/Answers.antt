-- `residues::modulus::from_residue` meets its contract: the remainder has the same centred number, and one q at most is taken from it.
use mathlib.Core.Path.{◌≡◌, ◌∙◌}
use Prim.Native.Nat.{ℕ, ◌%◌, ◌<◌}
use native.Mathlib.Omega.{arith}
use mir.Facts.{to_z-of_z}
use Rattle.residues.proofs.Laws.ModulusLaws.{centred-mod, centred-fits}
use Rattle.residues.proofs.Laws.ResidueSteps.{carry_fits, upper_fits, upper-held, multiple_fits, lowered-held, lowered-fits, lowered-centred}
use Rattle.residues.proofs.modulus.from_residue.Goals as goal
-- SPECIFICATION 2.11
pub mod Straight

below : (x : ℕ) → x % 4294967197 < 4294967197
below x = omega arith

pub overflow_add-upper : goal.overflow_add-upper
overflow_add-upper c = carry_fits _ (below c.args.x)

pub nonzero_div-upper : goal.nonzero_div-upper
nonzero_div-upper c = (omega arith, upper_fits _ (below c.args.x))

pub overflow_mul-result : goal.overflow_mul-result
overflow_mul-result c = rw (upper-held _ (below c.args.x)) (multiple_fits _ (below c.args.x))

pub overflow_sub-result : goal.overflow_sub-result
overflow_sub-result c = rw (lowered-held _ (below c.args.x)) (lowered-fits _ (below c.args.x))

pub overflow_cast-result : goal.overflow_cast-result
overflow_cast-result c =
    let low = below c.args.x in
    rw (lowered-held _ low, to_z-of_z (lowered-fits _ low), lowered-centred _ low) (centred-fits _)

pub returns : goal.returns
returns c =
    let low = below c.args.x in
    rw (lowered-held _ low, to_z-of_z (lowered-fits _ low), lowered-centred _ low) (to_z-of_z (centred-fits _) ∙ centred-mod c.args.x)
