-- `constraints::second::second_row_phi` meets its contract. The loop has written the first k entries.
use Rattle.std.proofs.Common.{arith}
use Rattle.constraints.specs.Aggregated.{second_rowΦ}
use Rattle.ring.specs.Laws.Loops.{filling_start, filling_step, filling_all}
use Rattle.constraints.proofs.second.second_row_phi.Goals as goal

pub loop-k-init : goal.loop-k-init
loop-k-init c = filling_start

pub loop-k-preserved : goal.loop-k-preserved
unfolding second_rowΦ
loop-k-preserved c = filling_step c.loop-k.invariant (omega arith) (omega arith) c.second_phi.ensures

pub returns : goal.returns
returns c = filling_all c.loop-k.invariant (omega arith)
