-- `ring::product::inner` meets its contract. The accumulator holds the sum of the products of the first k pairs.
use Rattle.std.proofs.Common.{refl, ◌∙◌}
use Rattle.ring.specs.Laws.ProductLaws.{pairs_start, pairs-step, holds-end}
use Rattle.ring.specs.Laws.Loops.{counted_start, counted_step, counted-end}
use Rattle.ring.proofs.product.inner.Goals as goal

pub loop-k-init : goal.loop-k-init
loop-k-init c = (refl, refl, counted_start (pairs_start _ c.requires.degree))

pub loop-k-preserved : goal.loop-k-preserved
loop-k-preserved c =
    let added = c.add_product.ensures in
    (added.0, added.1, counted_step c.loop-k-test.true (pairs-step _ c.loop-k.invariant.2.held added.2))

pub returns : goal.returns
returns c = c.finish.ensures ∙ holds-end (counted-end c.loop-k.invariant.2 c.loop-k-test.false)
