-- `aggregation::second::write_second_b` meets its contract: the two parts of the five values, and their sums.
use Rattle.aggregation.specs.Laws.ValueLaws.{values-end}
use Rattle.aggregation.proofs.second.write_second_b.Goals as goal

pub returns : goal.returns
returns c =
    values-end _ _ _ _ _ _ _ _ _ _ c.requires.values.seconds.terms.shaped.degree c.weigh_pairs-quadratic.ensures c.weigh_witness-linear.ensures
    c.write_sums.ensures
