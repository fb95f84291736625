-- `prover::commit::outer_row` meets its contract: a row is the sum of two inner products.
use Rattle.prover.specs.Laws.OutputLaws.{outer-sum}
use Rattle.prover.proofs.commit.outer_row.Goals as goal

pub returns : goal.returns
returns c =
    let a = c.args in
    outer-sum a.d a.m a.l a.k a.b_matrix.now a.x.now a.c_matrix.now a.y.now c.requires.degree.small
    c.inner.ensures c.inner-2.ensures c.sum.ensures
