-- `residues::range::is_between` is straight.
use mathlib.Core.Path.{◌≡◌, refl}
use mathlib.Core.Bool.{true}
use Rattle.residues.specs.StraightLine.{straight}
use Rattle.residues.proofs.range.is_between.Code.Mir as code

-- ---- SPECIFICATION 2.11
pub is-between-straight : straight (code.function).body ≡ true
unfolding straight
is-between-straight = refl
