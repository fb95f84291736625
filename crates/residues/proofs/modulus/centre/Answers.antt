-- `residues::modulus::centre` meets its contract: each step is in range, and together they centre.
use mathlib.Core.Path.{◌≡◌}
use mathlib.Core.Bool.{true}
use native.Mathlib.Omega.{arith}
use mir.Facts.{to_z-of_z}
use Rattle.residues.specs.Modulus.{q, centred}
use Rattle.residues.proofs.Laws.Centring.{quot_z_fits, shifted_fits, centre-fits, centre-fits-wide, remainder-held, shifted-held, low_held}
use Rattle.residues.proofs.Laws.StraightLineLaws.{signed_straight}
use Rattle.residues.specs.StraightLine.{straight, Signed, returned, added, subtracted, reduced, made_signed}
use Rattle.residues.proofs.modulus.centre.Code.Mir as code
use Rattle.residues.proofs.modulus.centre.Goals as goal

-- ---- SPECIFICATION 2.11
pub centre-signed : Signed (code.function).body
centre-signed = reduced (added (added (reduced (subtracted (made_signed returned)))))

pub centre-straight : straight (code.function).body ≡ true
centre-straight = signed_straight centre-signed

pub nonzero_rem-remainder : goal.nonzero_rem-remainder
nonzero_rem-remainder c = rw (to_z-of_z c.ranges.x) (omega arith, quot_z_fits 4294967197 c.args.x c.ranges.x)

pub overflow_add-shifted-2 : goal.overflow_add-shifted-2
overflow_add-shifted-2 c =
    rw (remainder-held 4294967197 (omega arith) (omega arith) c.args.x c.ranges.x)
    (shifted_fits 4294967197 (omega arith) (omega arith) c.args.x)

pub nonzero_rem-low : goal.nonzero_rem-low
nonzero_rem-low c =
    rw (shifted-held 4294967197 (omega arith) (omega arith) c.args.x c.ranges.x)
    (omega arith, quot_z_fits 4294967197 _ (shifted_fits 4294967197 (omega arith) (omega arith) c.args.x))

pub overflow_sub-result : goal.overflow_sub-result
overflow_sub-result c =
    rw (low_held 4294967197 (omega arith) (omega arith) c.args.x c.ranges.x)
    (centre-fits-wide 4294967197 (omega arith) (omega arith) c.args.x)

pub overflow_cast-result : goal.overflow_cast-result
overflow_cast-result c =
    rw (
      low_held 4294967197 (omega arith) (omega arith) c.args.x c.ranges.x,
      to_z-of_z (centre-fits-wide 4294967197 (omega arith) (omega arith) c.args.x),
    )
    (centre-fits 4294967197 (omega arith) (omega arith) c.args.x)

pub returns : goal.returns
unfolding centred q
returns c =
    rw (
      low_held 4294967197 (omega arith) (omega arith) c.args.x c.ranges.x,
      to_z-of_z (centre-fits-wide 4294967197 (omega arith) (omega arith) c.args.x),
    )
    (to_z-of_z (centre-fits 4294967197 (omega arith) (omega arith) c.args.x))
