-- `aggregation::second::add_part_pairs` meets its contract. The loop has added the first k pairs of part i.
use Rattle.std.proofs.Common.{◌≡◌, ◌+◌, ◌*◌, ◌≤◌, arith, length}
use Rattle.fold.specs.Laws.SizeBounds.{pairs-bound}
use Rattle.ring.specs.Laws.ElementPlaces.{row_fits}
use Rattle.aggregation.specs.Laws.RowLaws.{canonical}
use Rattle.aggregation.specs.Laws.ValueLaws.{pair-below, pairs-step}
use Rattle.ring.specs.Laws.Loops.{counted_start, counted_step, counted-end}
use Rattle.aggregation.proofs.second.add_part_pairs.Goals as goal

pub loop-k-init : goal.loop-k-init
loop-k-init c = let same : c.args.at ≡ c.args.at + 0 = omega arith in counted_start (rw (← same) c.requires.sums)

pub overflow_add-at : goal.overflow_add-at
overflow_add-at c =
    let below = pair-below c.args.shape.r c.args.i c.loop-k.k c.requires.i_lt_r.1 c.loop-k-test.true in
    omega (arith, below, pairs-bound _ c.requires.pair_facts.terms.shaped.parts-small)

pub second_row_a-row-requires-clause-e_bound : goal.second_row_a-row-requires-clause-e_bound
second_row_a-row-requires-clause-e_bound c = pair-below c.args.shape.r c.args.i c.loop-k.k c.requires.i_lt_r.1 c.loop-k-test.true

pub add_pair-more-requires-clause-n_le_most_rank : goal.add_pair-more-requires-clause-n_le_most_rank
add_pair-more-requires-clause-n_le_most_rank c =
    let z = c.args.shape in
    let fits : z.r * z.n * z.d ≤ length c.args.witness.now = omega (arith, c.requires.pair_facts.s-length) in
    let next = row_fits z.d z.n {i = c.args.i + c.loop-k.k} (omega (arith, c.loop-k-test.true)) fits in
    (c.requires.pair_facts.terms.shaped.rank-small, row_fits z.d z.n {i = c.args.i} c.requires.i_lt_r.0 fits, next)

pub add_pair-more-requires-clause-canonical : goal.add_pair-more-requires-clause-canonical
add_pair-more-requires-clause-canonical c = canonical _ c.requires.pair_facts.terms.shaped.degree.small c.loop-k.invariant.held.held

pub loop-k-preserved : goal.loop-k-preserved
loop-k-preserved c =
    let taken = c.loop-k-test.true in
    counted_step taken (pairs-step _ _ _ _ _ _ _ _ _ c.requires.pair_facts.terms.shaped.degree.small c.requires.i_lt_r.1 taken c.loop-k.invariant.held
    c.second_row_a-row.ensures c.add_pair-more.ensures)

pub returns : goal.returns
returns c = counted-end c.loop-k.invariant c.loop-k-test.false
