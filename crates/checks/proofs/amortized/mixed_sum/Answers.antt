-- `checks::amortized::mixed_sum` meets its contract. The accumulator holds the rows so far, and q is the number of the next row's first pair.
use Rattle.std.proofs.Common.{ap, ◌∙◌, arith}
use Rattle.ring.specs.Element.{array}
use Rattle.checks.specs.Laws.MixedLaws.{mixed-all, pair-first, pair-next-row, pair_small}
use Rattle.ring.specs.Laws.Loops.{summed_start, summed_step, summed_end}
use Rattle.checks.proofs.amortized.mixed_sum.Goals as goal

pub loop-i-init : goal.loop-i-init
loop-i-init c = (summed_start (c.additive_identity-acc.ensures _), pair-first _)

pub overflow_add-q : goal.overflow_add-q
overflow_add-q c =
    let small = pair_small c.args.r c.loop-i.i c.loop-i.q c.requires.garbage.parts c.loop-i-test.true c.loop-i.invariant.1 in
    omega (arith, small, c.requires.garbage.parts)

pub loop-i-preserved : goal.loop-i-preserved
loop-i-preserved c = (
  summed_step c.loop-i.invariant.0 c.requires.garbage.degree c.loop-i-test.true
      c.mixed_row.ensures c.sum-acc.ensures,
  pair-next-row c.args.r c.loop-i.i c.loop-i.q c.loop-i-test.true c.loop-i.invariant.1,
)

pub returns : goal.returns
returns c = summed_end c.loop-i.invariant.0 c.loop-i-test.false ∙ ap (array c.args.d) (mixed-all _ _ _ _ _ _ _)
