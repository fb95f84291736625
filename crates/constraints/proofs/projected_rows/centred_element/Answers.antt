-- `constraints::projected_rows::centred_element` meets its contract. The first y numbers are in place, zeros follow.
use Rattle.std.proofs.Common.{◌+◌, ◌*◌, arith, get_or, pos}
use Rattle.constraints.specs.Laws.AccumulatorLaws.{stored-centre}
use Rattle.ring.specs.Laws.Loops.{filling_start, filling_step}
use Rattle.constraints.proofs.projected_rows.centred_element.Goals as goal

pub loop-y-init : goal.loop-y-init
loop-y-init c = filling_start

pub loop-y-preserved : goal.loop-y-preserved
loop-y-preserved c =
    let x = get_or c.args.acc.now (c.loop-y.y * 5 + c.args.k) (pos 0) in
    filling_step c.loop-y.invariant c.requires.degree.small (omega arith) (stored-centre _ x c.centre-arg-1.given c.centre.ensures)
