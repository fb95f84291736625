-- `constraints::aggregated::aggregate_a` meets its contract: the row of five is weighted.
use Rattle.std.proofs.Common.{ap, ◌∙◌, arith}
use Rattle.ring.specs.Element.{array}
use Rattle.constraints.specs.Aggregated.{weighted_a}
use Rattle.constraints.specs.Laws.Rows.{row-weighted}
use Rattle.constraints.specs.Laws.SizeLaws.{function-parts}
use Rattle.constraints.specs.Laws.AggregatedLaws.{aggregate-a-end}
use Rattle.constraints.proofs.aggregated.aggregate_a.Goals as goal

pub whole_entry-wholes-requires-clause-e_bound : goal.whole_entry-wholes-requires-clause-e_bound
whole_entry-wholes-requires-clause-e_bound c =
    omega (arith, function-parts c.args.sizes.shape.n c.args.sizes.shape.r, c.requires.delta_len.1)

pub returns : goal.returns
unfolding weighted_a
returns c =
    let d = c.args.sizes.shape.d in
    let degree = c.requires.whole_facts.shaped.degree in
    aggregate-a-end _ _ _ _ _ _ _ _ _ _ _ degree c.whole_entry-wholes.ensures
    (c.weighted_row.ensures ∙ ap (array d) (row-weighted d c.args.delta.now _ degree.small c.second_row_a-row_a.ensures))
    c.sum.ensures
