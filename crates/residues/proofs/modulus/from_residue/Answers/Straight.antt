-- SPECIFICATION 2.11: after its remainder `residues::modulus::from_residue` is straight code of signed arithmetic, without a branch or a call.
use mathlib.Core.Path.{◌≡◌}
use mathlib.Core.Bool.{true}
use Rattle.residues.proofs.Laws.StraightLineLaws.{after-remainder-straight}
use Rattle.residues.specs.StraightLine.{straight, AfterRemainder, returned, added, subtracted, multiplied, divided, made_signed, first}
use Rattle.residues.proofs.modulus.from_residue.Code.Mir as code

pub from-residue-after-remainder : AfterRemainder (code.function).body
from-residue-after-remainder = first (made_signed (added (divided (multiplied (subtracted (made_signed returned))))))

pub from-residue-straight : straight (code.function).body ≡ true
from-residue-straight = after-remainder-straight from-residue-after-remainder
