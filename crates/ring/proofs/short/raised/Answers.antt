-- `ring::short::raised` meets its contract: 2^22 + x is not negative.
use Rattle.std.proofs.Common.{◌≡◌, true, refl, to_z-of_z}
use Rattle.residues.proofs.Laws.Words.{widen, wide}
use Rattle.residues.specs.StraightLine.{straight}
use Rattle.ring.specs.Short.{lifted}
use Rattle.ring.specs.Laws.ShortOperand.{raised-fits, raised-natural}
use Rattle.ring.proofs.short.raised.Code.Mir as code
use Rattle.ring.proofs.short.raised.Goals as goal

-- ---- SPECIFICATION 2.11
pub raised-straight : straight (code.function).body ≡ true
unfolding straight
raised-straight = refl

pub overflow_cast-wide : goal.overflow_cast-wide
overflow_cast-wide c = rw (to_z-of_z c.ranges.x) (widen c.ranges.x)

pub overflow_add-result : goal.overflow_add-result
overflow_add-result c = rw (wide c.ranges.x) (raised-fits c.args.x c.requires)

pub overflow_cast-result : goal.overflow_cast-result
overflow_cast-result c = rw (wide c.ranges.x, to_z-of_z (raised-fits c.args.x c.requires)) (raised-natural c.args.x c.requires)

pub returns : goal.returns
unfolding lifted
returns c = rw (wide c.ranges.x, to_z-of_z (raised-fits c.args.x c.requires)) refl
