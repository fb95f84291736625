-- `checks::linear::linear_summand` meets its contract.
use Rattle.checks.specs.Laws.RelationLaws.{linear_summand_lem}
use Rattle.checks.proofs.linear.linear_summand.Goals as goal

pub returns : goal.returns
returns c =
    linear_summand_lem _ _ _ _ _ c.args.i c.requires.shaped.degree.small c.inner.ensures c.from_slice.ensures c.product.ensures
