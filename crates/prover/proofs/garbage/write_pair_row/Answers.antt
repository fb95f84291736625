-- `prover::garbage::write_pair_row` meets its contract. The loop's invariant: the products with the first k parts from i on are written.
use Rattle.std.proofs.Common.{refl, ◌+◌, arith}
use Rattle.algebra.specs.DotProduct.{inner}
use Rattle.fold.specs.Statement.{part}
use Rattle.fold.specs.Messages.{elements, g}
use Rattle.ring.specs.Laws.Writers.{elements-start, elements-turn, elements-end}
use Rattle.ring.specs.Laws.ElementPlaces.{row_fits}
use Rattle.prover.proofs.garbage.write_pair_row.Goals as goal

pub loop-k-init : goal.loop-k-init
loop-k-init c = elements-start c.requires.n_le_most_rank.3

pub inner-requires-clause-n_bound : goal.inner-requires-clause-n_bound
inner-requires-clause-n_bound c =
    let a = c.args in (
      omega arith,
      row_fits a.d a.n {i = a.i} (omega arith) c.requires.n_le_most_rank.2,
      row_fits a.d a.n {i = a.i + c.loop-k.k} (omega arith) c.requires.n_le_most_rank.2,
    )

pub loop-k-preserved : goal.loop-k-preserved
unfolding g inner part
loop-k-preserved c = elements-turn c.loop-k.invariant c.requires.degree refl c.loop-k-test.true c.inner.ensures c.store.ensures

pub returns : goal.returns
unfolding elements
returns c = elements-end c.loop-k.invariant c.loop-k-test.false
