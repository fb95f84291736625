-- `prover::commit::write_products` meets its contract. The loop's invariant: the first k elements of t_i are written.
use Rattle.std.proofs.Common.{refl, arith}
use Rattle.algebra.specs.DotProduct.{inner}
use Rattle.fold.specs.Statement.{part}
use Rattle.fold.specs.Messages.{elements, t, times}
use Rattle.ring.specs.Laws.Writers.{elements-start, elements-turn, elements-end}
use Rattle.ring.specs.Laws.ElementPlaces.{row_below}
use Rattle.prover.proofs.commit.write_products.Goals as goal

pub loop-k-init : goal.loop-k-init
loop-k-init c = elements-start c.requires.d_in_bounds

pub overflow_mul-k : goal.overflow_mul-k
overflow_mul-k c = omega (arith, row_below c.args.d c.args.n c.requires.degree.positive c.loop-k-test.true c.requires.part_facts.matrix)

pub loop-k-preserved : goal.loop-k-preserved
unfolding t times inner part
loop-k-preserved c = elements-turn c.loop-k.invariant c.requires.degree refl c.loop-k-test.true c.inner.ensures c.store.ensures

pub returns : goal.returns
unfolding elements
returns c = elements-end c.loop-k.invariant c.loop-k-test.false
