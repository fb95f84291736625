-- `next_constraints::blocks::power` meets its contract. The loop's invariant: base to the number of turns so far.
use Rattle.std.proofs.Common.{arith, to_z-of_z}
use mir.Facts.{of_z-to_z}
use Rattle.std.specs.Int.{w32}
use Rattle.next_constraints.specs.Laws.Powers.{power-start, power-turn, power-end}
use Rattle.next_constraints.proofs.blocks.power.Goals as goal

pub loop-init : goal.loop-init
loop-init c = power-start c.args.base

pub loop-preserved : goal.loop-preserved
loop-preserved c =
    rw (to_z-of_z {w = w32} {z = c.fold_digit-power.result} (record { sfits = c.fold_digit-power.type_inv }))
    (power-turn c.args.base c.loop.counter c.loop.power-bits _ (rw (of_z-to_z c.loop.auto.power-fits) at c.loop.invariant) c.fold_digit-power.ensures)

pub returns : goal.returns
returns c =
    let l = c.loop in
    power-end c.args.base l.counter c.args.e l.power-bits (omega arith) (rw (of_z-to_z l.auto.power-fits) at l.invariant)
