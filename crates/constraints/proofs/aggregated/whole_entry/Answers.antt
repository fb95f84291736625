-- `constraints::aggregated::whole_entry` meets its contract. The loop has added k constraints.
use Rattle.std.proofs.Common.{refl, arith}
use Rattle.constraints.specs.Laws.Terms.{whole-step, whole-end, whole-size-small, whole-step-small}
use Rattle.constraints.specs.Laws.Terms.{whole-inside, whole-place, rest-room}
use Rattle.ring.specs.Laws.Loops.{summed_start, summed_end}
use Rattle.constraints.proofs.aggregated.whole_entry.Goals as goal

pub overflow_add-step : goal.overflow_add-step
overflow_add-step c = omega (arith, whole-size-small c.requires.whole_facts c.function_size.ensures)

pub overflow_mul-step : goal.overflow_mul-step
overflow_mul-step c = omega (arith, whole-step-small c.requires.whole_facts c.function_size.ensures)

pub loop-k-init : goal.loop-k-init
loop-k-init c = summed_start (c.additive_identity-sum.ensures _)

pub overflow_mul-k : goal.overflow_mul-k
overflow_mul-k c = omega (arith, whole-inside c.requires.whole_facts c.function_size.ensures c.loop-k-test.true refl)

pub offset_bounds-whole-k : goal.offset_bounds-whole-k
offset_bounds-whole-k c = omega (arith, whole-inside c.requires.whole_facts c.function_size.ensures c.loop-k-test.true refl)

pub slice_bounds-from_slice-count : goal.slice_bounds-from_slice-count
slice_bounds-from_slice-count c = omega (arith, whole-inside c.requires.whole_facts c.function_size.ensures c.loop-k-test.true refl)

pub slice_bounds-from_slice-start : goal.slice_bounds-from_slice-start
slice_bounds-from_slice-start c = omega (arith, whole-inside c.requires.whole_facts c.function_size.ensures c.loop-k-test.true refl)

pub from_slice-entry-requires-clause-d_in_bounds : goal.from_slice-entry-requires-clause-d_in_bounds
from_slice-entry-requires-clause-d_in_bounds c =
    rest-room c.args.whole.now _ (whole-place c.requires.whole_facts c.function_size.ensures c.loop-k-test.true c.requires.e_bound refl)

pub loop-k-preserved : goal.loop-k-preserved
loop-k-preserved c =
    whole-step _ _ _ _ c.loop-k.invariant c.requires.whole_facts.shaped.degree c.loop-k-test.true refl c.from_slice-entry.ensures
    c.from_slice-weight.ensures c.product.ensures c.sum-sum.ensures

pub returns : goal.returns
returns c = whole-end _ _ _ _ _ _ _ c.function_size.ensures (summed_end c.loop-k.invariant c.loop-k-test.false)
