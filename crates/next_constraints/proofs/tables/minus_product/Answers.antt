-- `next_constraints::tables::minus_product` meets its contract.
use Rattle.next_constraints.specs.Laws.TableLaws.{product-end}
use Rattle.next_constraints.proofs.tables.minus_product.Goals as goal

pub returns : goal.returns
returns c =
    product-end c.args.d _ c.args.i c.args.j _ c.requires.degree c.from_slice.ensures c.from_slice-2.ensures
    c.product-once.ensures c.pair_factor.ensures c.scale.ensures c.negation.ensures
