-- `aggregation::second::weigh_witness` meets its contract. The loop has added the first e elements.
use Rattle.std.proofs.Common.{arith}
use Rattle.ring.specs.Laws.ElementPlaces.{element-within}
use Rattle.constraints.specs.Laws.SizeLaws.{witness_small}
use Rattle.constraints.specs.Laws.AggregatedLaws.{second-row}
use Rattle.aggregation.specs.Laws.RowLaws.{sums-start}
use Rattle.aggregation.specs.Laws.ValueLaws.{witness-step}
use Rattle.ring.specs.Laws.Loops.{counted_start, counted_step, counted-end}
use Rattle.aggregation.proofs.second.weigh_witness.Goals as goal

pub overflow_mul-e-end : goal.overflow_mul-e-end
overflow_mul-e-end c = omega (arith, witness_small c.requires.value_facts.seconds.terms.shaped)

pub loop-e-init : goal.loop-e-init
loop-e-init c = counted_start (sums-start _ _)

pub from_slice-element-requires-clause-d_in_bounds : goal.from_slice-element-requires-clause-d_in_bounds
from_slice-element-requires-clause-d_in_bounds c =
    element-within c.args.shape.d c.loop-e-test.true (omega (arith, c.requires.value_facts.pairs.s-length))

pub loop-e-preserved : goal.loop-e-preserved
loop-e-preserved c =
    let small = c.requires.value_facts.seconds.terms.shaped.degree.small in
    counted_step c.loop-e-test.true
    (witness-step _ _ _ _ _ _ _ _ _ _ small c.loop-e.invariant.held
    (second-row _ _ _ _ _ _ _ _ _ _ small c.projection_row-projected.ensures c.second_row_phi-row.ensures) c.from_slice-element.ensures
    c.add_products-more.ensures)

pub returns : goal.returns
returns c = counted-end c.loop-e.invariant c.loop-e-test.false
