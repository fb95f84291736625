-- `aggregation::rows::add_products` meets its contract. The loop has written the first k entries.
use Rattle.std.proofs.Common.{arith}
use Rattle.ring.specs.Laws.Loops.{filling_start, filling_step, filling_all}
use Rattle.aggregation.specs.Laws.RowLaws.{plus-product-end}
use Rattle.aggregation.proofs.rows.add_products.Goals as goal

pub loop-k-init : goal.loop-k-init
loop-k-init c = filling_start

pub loop-k-preserved : goal.loop-k-preserved
loop-k-preserved c =
    let more = plus-product-end c.args.d c.args.sums c.args.row c.args.y c.loop-k.k c.requires.small c.multiply-product.ensures
    c.added.ensures in
    filling_step c.loop-k.invariant (omega arith) (omega arith) more

pub returns : goal.returns
returns c = filling_all c.loop-k.invariant (omega arith)
