-- `aggregation::rows::add_pair` meets its contract: where the row is zero the sums are what they were.
use Rattle.std.proofs.Common.{sym, ◌∙◌}
use Rattle.algebra.specs.DotProduct.{inner}
use Rattle.fold.specs.Statement.{part}
use Rattle.fold.specs.Messages.{g}
use Rattle.aggregation.specs.Laws.RowLaws.{zero_row, by_element}
use Rattle.aggregation.proofs.rows.add_pair.Goals as goal

pub returns-then-is_zero : goal.returns-then-is_zero
returns-then-is_zero c =
    let a = c.args in
    let y = g a.d a.n a.witness.now a.i a.j in
    zero_row a.d a.sums a.row y c.requires.canonical (sym c.is_zero.ensures ∙ c.if-is_zero.true)

pub returns : goal.returns
unfolding g inner part
returns c =
    let a = c.args in
    by_element a.d a.sums a.row (g a.d a.n a.witness.now a.i a.j) c.requires.degree.small c.inner-inner.ensures c.add_products.ensures
