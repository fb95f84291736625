-- `aggregation::products::write_part_products` meets its contract. The loop's invariant: the products with the first j parts are written.
use Rattle.std.proofs.Common.{refl, arith}
use Rattle.fold.specs.Messages.{elements}
use Rattle.ring.specs.Laws.Writers.{elements-start, elements-turn, elements-end}
use Rattle.aggregation.specs.Laws.GarbageLaws.{part-product-end}
use Rattle.ring.specs.Laws.ElementPlaces.{row_below}
use Rattle.aggregation.proofs.products.write_part_products.Goals as goal

pub loop-j-init : goal.loop-j-init
loop-j-init c = elements-start c.requires.n_le_most_rank.3

pub overflow_mul-j : goal.overflow_mul-j
overflow_mul-j c = omega (arith, row_below c.args.d c.args.n c.requires.degree.positive c.loop-j-test.true c.requires.n_le_most_rank.2)

pub loop-j-preserved : goal.loop-j-preserved
loop-j-preserved c =
    let a = c.args in
    elements-turn c.loop-j.invariant c.requires.degree refl c.loop-j-test.true
    (part-product-end a.d a.n a.phi.now a.witness.now c.loop-j.j c.inner.ensures) c.store.ensures

pub returns : goal.returns
unfolding elements
returns c = elements-end c.loop-j.invariant c.loop-j-test.false
