-- `constraints::aggregated::aggregate_constant` meets its contract.
use Rattle.constraints.specs.Laws.AggregatedLaws.{constant-end}
use Rattle.constraints.proofs.aggregated.aggregate_constant.Goals as goal

pub returns : goal.returns
returns c =
    let wholes = rw c.function_size-place.ensures at c.whole_entry-wholes.ensures in
    constant-end _ _ _ _ _ _ _ _ c.requires.whole_facts.shaped.degree wholes c.inner.ensures c.sum.ensures
