-- `bare_verifier::aggregate::diagonal_sum` meets its contract. The accumulator holds the summands so far, and q is the number of the next pair (i, i). Assumes nothing.
use native.Mathlib.Omega.{arith}
use Rattle.ring.specs.Laws.Loops.{summed_start, summed_step}
use Rattle.fold.specs.Laws.SizeBounds.{pairs-bound}
use Rattle.bare_verifier.specs.Laws.CheckLaws.{diagonal_first, diagonal_next, diagonal_below}
use Rattle.bare_verifier.proofs.aggregate.diagonal_sum.Goals as goal

pub loop-i-init : goal.loop-i-init
loop-i-init c = (summed_start (c.additive_identity-acc.ensures _), diagonal_first _)

pub overflow_add-q : goal.overflow_add-q
overflow_add-q c =
    let r = c.args.sizes.shape.r in
    let few = c.requires.opened.shaped.parts-small in
    omega (arith, diagonal_below r c.loop-i.i c.loop-i.q c.loop-i-test.true c.loop-i.invariant.1, pairs-bound r few, few)

pub loop-i-preserved : goal.loop-i-preserved
loop-i-preserved c =
    let taken = c.loop-i-test.true in (
      summed_step c.loop-i.invariant.0 c.requires.opened.shaped.degree taken c.diagonal_summand-summand.ensures c.sum-acc.ensures,
      diagonal_next c.args.sizes.shape.r c.loop-i.i c.loop-i.q taken c.loop-i.invariant.1,
    )
