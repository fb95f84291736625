-- `constraints::second::term_entry` meets its contract. The loop has added j constraints.
use Rattle.std.proofs.Common.{refl, arith}
use Rattle.constraints.specs.Laws.Terms.{term_step, term_end, term_step-small}
use Rattle.constraints.specs.Laws.Terms.{term_inside, term_place, rest-room}
use Rattle.ring.specs.Laws.Loops.{summed_start, summed_end}
use Rattle.constraints.proofs.second.term_entry.Goals as goal

pub overflow_mul-step : goal.overflow_mul-step
overflow_mul-step c = omega (arith, term_step-small c.requires.term_facts c.function_size.ensures)

pub overflow_add-step : goal.overflow_add-step
overflow_add-step c = omega (arith, term_step-small c.requires.term_facts c.function_size.ensures)

pub loop-j-init : goal.loop-j-init
loop-j-init c = summed_start (c.additive_identity-sum.ensures _)

pub overflow_mul-j : goal.overflow_mul-j
overflow_mul-j c = omega (arith, term_inside c.requires.term_facts c.function_size.ensures c.loop-j-test.true refl)

pub offset_bounds-constant_terms-j : goal.offset_bounds-constant_terms-j
offset_bounds-constant_terms-j c = omega (arith, term_inside c.requires.term_facts c.function_size.ensures c.loop-j-test.true refl)

pub slice_bounds-from_slice-count : goal.slice_bounds-from_slice-count
slice_bounds-from_slice-count c = omega (arith, term_inside c.requires.term_facts c.function_size.ensures c.loop-j-test.true refl)

pub slice_bounds-from_slice-start : goal.slice_bounds-from_slice-start
slice_bounds-from_slice-start c = omega (arith, term_inside c.requires.term_facts c.function_size.ensures c.loop-j-test.true refl)

pub from_slice-entry-requires-clause-d_in_bounds : goal.from_slice-entry-requires-clause-d_in_bounds
from_slice-entry-requires-clause-d_in_bounds c =
    rest-room c.args.constant_terms.now _
    (term_place c.requires.term_facts c.function_size.ensures c.loop-j-test.true c.requires.k_bound.1 refl)

pub loop-j-preserved : goal.loop-j-preserved
loop-j-preserved c =
    term_step _ _ _ _ _ c.loop-j.invariant c.requires.term_facts.shaped.degree c.loop-j-test.true refl c.scale-arg-1.given
    c.from_slice-entry.ensures c.scale.ensures c.sum-sum.ensures

pub returns : goal.returns
returns c = term_end _ _ _ _ _ _ _ _ c.function_size.ensures (summed_end c.loop-j.invariant c.loop-j-test.false)
