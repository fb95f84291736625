-- `checks::relation::diagonal_sum` meets its contract. The accumulator holds the summands so far, and q is the number of the next pair (i, i).
use Rattle.std.proofs.Common.{ap, ◌∙◌, arith, le_refl}
use Rattle.ring.specs.Element.{array}
use Rattle.fold.specs.Opening.{block}
use Rattle.checks.specs.Laws.PlaceLaws.{garbage-at}
use Rattle.checks.specs.Laws.MixedLaws.{garbage-fits, pair-first, pair-next-row, pair_small}
use Rattle.ring.specs.Laws.Loops.{summed_start, summed_step, summed_end}
use Rattle.checks.proofs.relation.diagonal_sum.Goals as goal

pub loop-i-init : goal.loop-i-init
loop-i-init c = (summed_start (c.additive_identity-acc.ensures _), pair-first _)

pub garbage_of-requires-clause-d_in_bounds : goal.garbage_of-requires-clause-d_in_bounds
garbage_of-requires-clause-d_in_bounds c =
    let a = c.args in
    garbage-fits a.d a.r a.t a.place c.loop-i.i c.loop-i.i c.loop-i.q _ (le_refl _) c.loop-i-test.true c.loop-i.invariant.1 c.requires.inside

pub overflow_add-q : goal.overflow_add-q
overflow_add-q c =
    let small = pair_small c.args.r c.loop-i.i c.loop-i.q c.requires.parts c.loop-i-test.true c.loop-i.invariant.1 in
    omega (arith, small, c.requires.parts)

pub loop-i-preserved : goal.loop-i-preserved
loop-i-preserved c =
    let a = c.args in
    let i = c.loop-i.i in
    let taken = c.loop-i-test.true in
    let place = garbage-at a.d a.r a.b a.t (block a.d a.opening.now a.place) i i c.loop-i.q c.loop-i.invariant.1 in
    let value = c.garbage_of.ensures ∙ ap (array a.d) place in
    (summed_step c.loop-i.invariant.0 c.requires.degree taken value c.sum-acc.ensures, pair-next-row a.r i c.loop-i.q taken c.loop-i.invariant.1)

pub returns : goal.returns
returns c = summed_end c.loop-i.invariant.0 c.loop-i-test.false
