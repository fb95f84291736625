-- `residues::modulus::centre_small` meets its contract: what is added makes the number natural, and one remainder centres it.
use mathlib.Core.Path.{◌≡◌}
use mathlib.Core.Bool.{true}
use native.Mathlib.Omega.{arith}
use mir.Facts.{to_z-of_z}
use Rattle.residues.specs.Modulus.{q, centred}
use Rattle.residues.proofs.Laws.Centring.{quot_z_fits, centre-fits, centre-fits-wide, raised-fits, raised-held, raised-low-held}
use Rattle.residues.proofs.Laws.StraightLineLaws.{signed_straight}
use Rattle.residues.specs.StraightLine.{straight, Signed, returned, added, subtracted, reduced, made_signed}
use Rattle.residues.proofs.modulus.centre_small.Code.Mir as code
use Rattle.residues.proofs.modulus.centre_small.Goals as goal

-- ---- SPECIFICATION 2.11
pub centre-small-signed : Signed (code.function).body
centre-small-signed = added (added (reduced (subtracted (made_signed returned))))

pub centre-small-straight : straight (code.function).body ≡ true
centre-small-straight = signed_straight centre-small-signed

pub overflow_add-shifted-2 : goal.overflow_add-shifted-2
overflow_add-shifted-2 c =
    rw (to_z-of_z c.ranges.x)
    (raised-fits 4294967197 (omega arith) (omega arith) c.args.x c.ranges.x (omega (arith, c.requires)))

pub nonzero_rem-low : goal.nonzero_rem-low
nonzero_rem-low c =
    let near = raised-fits 4294967197 (omega arith) (omega arith) c.args.x c.ranges.x (omega (arith, c.requires)) in
    rw (raised-held 4294967197 (omega arith) (omega arith) c.args.x c.ranges.x (omega (arith, c.requires)))
    (omega arith, quot_z_fits 4294967197 _ near)

pub overflow_sub-result : goal.overflow_sub-result
overflow_sub-result c =
    rw (raised-low-held 4294967197 (omega arith) (omega arith) c.args.x c.ranges.x (omega (arith, c.requires)))
    (centre-fits-wide 4294967197 (omega arith) (omega arith) c.args.x)

pub overflow_cast-result : goal.overflow_cast-result
overflow_cast-result c =
    rw (
      raised-low-held 4294967197 (omega arith) (omega arith) c.args.x c.ranges.x (omega (arith, c.requires)),
      to_z-of_z (centre-fits-wide 4294967197 (omega arith) (omega arith) c.args.x),
    )
    (centre-fits 4294967197 (omega arith) (omega arith) c.args.x)

pub returns : goal.returns
unfolding centred q
returns c =
    rw (
      raised-low-held 4294967197 (omega arith) (omega arith) c.args.x c.ranges.x (omega (arith, c.requires)),
      to_z-of_z (centre-fits-wide 4294967197 (omega arith) (omega arith) c.args.x),
    )
    (to_z-of_z (centre-fits 4294967197 (omega arith) (omega arith) c.args.x))
