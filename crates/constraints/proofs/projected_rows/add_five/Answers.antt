-- `constraints::projected_rows::add_five` meets its contract. The loop has added the first k numbers.
use Rattle.std.proofs.Common.{arith}
use Rattle.constraints.specs.Laws.AccumulatorLaws.{five_more, held_number}
use Rattle.constraints.proofs.projected_rows.add_five.Goals as goal

pub loop-k-preserved : goal.loop-k-preserved
loop-k-preserved c =
    let taken = c.loop-k-test.true in
    five_more c.loop-k.invariant c.requires.five_room taken c.acc-in-loop-k-1.given (held_number _ c.acc-1.given)
    (c.requires.from_bound.1.small _ taken) (omega arith)
