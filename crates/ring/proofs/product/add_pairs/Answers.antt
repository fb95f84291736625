-- `ring::product::add_pairs` meets its contract. The loop has added the first k columns of each half.
use Rattle.std.proofs.Common.{arith}
use Rattle.ring.specs.Laws.ProductArrays.{adding_step, adding_end, first_fits, second_fits}
use Rattle.ring.proofs.product.add_pairs.Goals as goal

pub overflow_add-acc : goal.overflow_add-acc
overflow_add-acc g c =
    let (col, limit, columns) = c.requires.columns in
    first_fits (c.loop-k.invariant col columns) c.loop-k-test.true (omega arith) (columns _ _ _ c.pair-found.ensures) limit c.requires.room

pub overflow_add-acc-in-loop-k-2 : goal.overflow_add-acc-in-loop-k-2
overflow_add-acc-in-loop-k-2 g c =
    let (col, limit, columns) = c.requires.columns in
    second_fits (c.loop-k.invariant col columns) c.loop-k-test.true (omega arith) (columns _ _ _ c.pair-found.ensures) limit c.requires.room _

pub loop-k-preserved : goal.loop-k-preserved
loop-k-preserved g c = λ col columns.
    adding_step (c.loop-k.invariant col columns) c.loop-k-test.true (omega arith) (columns _ _ _ c.pair-found.ensures)

pub returns : goal.returns
returns g c = λ col limit columns. adding_end (c.loop-k.invariant col columns) c.loop-k-test.false (omega arith) limit
