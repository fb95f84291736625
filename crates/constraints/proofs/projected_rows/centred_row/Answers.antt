-- `constraints::projected_rows::centred_row` meets its contract. The first k elements are in place, zeros follow.
use Rattle.std.proofs.Common.{arith}
use Rattle.ring.specs.Laws.Loops.{filling_start, filling_step, filling_all}
use Rattle.constraints.proofs.projected_rows.centred_row.Goals as goal

pub loop-k-init : goal.loop-k-init
loop-k-init c = filling_start

pub loop-k-preserved : goal.loop-k-preserved
loop-k-preserved c = filling_step c.loop-k.invariant (omega arith) (omega arith) c.centred_element.ensures

pub returns : goal.returns
returns c = filling_all c.loop-k.invariant (omega arith)
