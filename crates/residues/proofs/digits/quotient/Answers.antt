-- `residues::digits::quotient` meets its contract: each step is in range, and together they round to the nearest whole number.
use native.Mathlib.Omega.{arith}
use mir.Facts.{to_z-of_z}
use Rattle.residues.proofs.Laws.Words.{widen, wide}
use Rattle.residues.proofs.Laws.DigitSteps.{added-product-fits, added-held, sum_fits, down_fits, down-held, remainder-held, down-small, remainder-small, up_small}
use Rattle.residues.proofs.Laws.DigitSteps.{rest-held, rest-fits}
use Rattle.residues.proofs.digits.quotient.Goals as goal

pub overflow_cast-raised : goal.overflow_cast-raised
overflow_cast-raised c = rw (to_z-of_z c.ranges.x) (widen c.ranges.x)

pub overflow_mul-raised : goal.overflow_mul-raised
overflow_mul-raised c = added-product-fits c.requires

pub overflow_add-raised : goal.overflow_add-raised
overflow_add-raised c = rw (wide c.ranges.x, added-held c.requires) (sum_fits c.requires c.ranges.x)

pub nonzero_div-down : goal.nonzero_div-down
nonzero_div-down c = (omega (arith, c.requires.least), down_fits c.requires c.ranges.x)

pub overflow_cast-down : goal.overflow_cast-down
overflow_cast-down c = (rw (down-held c.requires c.ranges.x) tt, omega (arith, down-small c.requires c.ranges.x))

pub nonzero_rem-remainder : goal.nonzero_rem-remainder
nonzero_rem-remainder c = (omega (arith, c.requires.least), down_fits c.requires c.ranges.x)

pub overflow_cast-remainder : goal.overflow_cast-remainder
overflow_cast-remainder c = (rw (remainder-held c.requires c.ranges.x) tt, omega (arith, remainder-small c.requires c.ranges.x, c.requires.most))

pub overflow_mul-up : goal.overflow_mul-up
overflow_mul-up c = omega (arith, remainder-small c.requires c.ranges.x, c.requires.most)

pub overflow_add-up : goal.overflow_add-up
overflow_add-up c = omega (arith, remainder-small c.requires c.ranges.x, c.requires.most)

pub overflow_sub-up : goal.overflow_sub-up
overflow_sub-up c = omega (arith, c.requires.most)

pub overflow_add-up-2 : goal.overflow_add-up-2
overflow_add-up-2 c = omega (arith, remainder-small c.requires c.ranges.x, c.requires.most)

pub overflow_add-rounded : goal.overflow_add-rounded
overflow_add-rounded c = omega (arith, down-small c.requires c.ranges.x, up_small c.requires c.ranges.x)

pub overflow_cast-rounded : goal.overflow_cast-rounded
overflow_cast-rounded c = omega (arith, down-small c.requires c.ranges.x, up_small c.requires c.ranges.x)

pub overflow_sub-result : goal.overflow_sub-result
overflow_sub-result c = rw (rest-held c.requires c.ranges.x) (widen (rest-fits c.requires c.ranges.x))

pub overflow_cast-result : goal.overflow_cast-result
overflow_cast-result c = let rest = rest-fits c.requires c.ranges.x in rw (rest-held c.requires c.ranges.x, to_z-of_z (widen rest)) rest

pub returns : goal.returns
returns c = let rest = rest-fits c.requires c.ranges.x in rw (rest-held c.requires c.ranges.x, to_z-of_z (widen rest)) (to_z-of_z rest)
