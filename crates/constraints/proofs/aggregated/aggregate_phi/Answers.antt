-- `constraints::aggregated::aggregate_phi` meets its contract: the row of five is weighted.
use Rattle.std.proofs.Common.{ap, ◌∙◌, arith}
use Rattle.ring.specs.Element.{array}
use Rattle.fold.specs.Laws.SizeBounds.{pairs-bound}
use Rattle.constraints.specs.Aggregated.{weightedΦ}
use Rattle.constraints.specs.Laws.Rows.{row-weighted}
use Rattle.constraints.specs.Laws.SizeLaws.{witness_small, function-parts}
use Rattle.constraints.specs.Laws.AggregatedLaws.{aggregate-φ-end}
use Rattle.constraints.proofs.aggregated.aggregate_phi.Goals as goal

pub overflow_add-place : goal.overflow_add-place
overflow_add-place c =
    let shaped = c.requires.whole_facts.shaped in
    omega (arith, c.pair_count.ensures, pairs-bound _ shaped.parts-small, witness_small shaped, c.requires.delta_len.1)

pub whole_entry-wholes-requires-clause-e_bound : goal.whole_entry-wholes-requires-clause-e_bound
whole_entry-wholes-requires-clause-e_bound c =
    omega (arith, c.pair_count.ensures, function-parts c.args.sizes.shape.n c.args.sizes.shape.r, c.requires.delta_len.1)

pub returns : goal.returns
unfolding weightedΦ
returns c =
    let d = c.args.sizes.shape.d in
    let degree = c.requires.whole_facts.shaped.degree in
    let wholes = rw c.pair_count.ensures at c.whole_entry-wholes.ensures in
    aggregate-φ-end _ _ _ _ _ _ _ _ _ _ _ _ degree wholes
    (c.weighted_row.ensures ∙ ap (array d) (row-weighted d c.args.delta.now _ degree.small c.second_row_phi-row_phi.ensures))
    c.sum.ensures
