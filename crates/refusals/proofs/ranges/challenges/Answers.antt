-- `refusals::ranges::challenges` meets its contract. The loop's invariant: `all` says that the first i elements keep the rule. Assumes nothing.
use native.Mathlib.Omega.{arith}
use Rattle.ring.specs.Laws.ElementPlaces.{block-before}
use Rattle.refusals.specs.Laws.ListLaws.{kept-start, kept_step, kept-end}
use Rattle.refusals.proofs.ranges.challenges.Goals as goal

pub loop-i-init : goal.loop-i-init
loop-i-init c = kept-start _ _ _

pub overflow_mul-at : goal.overflow_mul-at
overflow_mul-at c = omega (arith, block-before c.args.d _ _ c.loop-i-test.true)

pub overflow_add-end : goal.overflow_add-end
overflow_add-end c = omega (arith, block-before c.args.d _ _ c.loop-i-test.true)

pub offset_bounds-c-at : goal.offset_bounds-c-at
offset_bounds-c-at c = omega (arith, block-before c.args.d _ _ c.loop-i-test.true)

pub slice_bounds-is_challenge-end : goal.slice_bounds-is_challenge-end
slice_bounds-is_challenge-end c = omega (arith, block-before c.args.d _ _ c.loop-i-test.true)

pub loop-i-preserved : goal.loop-i-preserved
loop-i-preserved c =
    kept_step _ _ _ c.loop-i.all _ _
    c.loop-i.invariant
    c.loop-i-test.true
    c.is_challenge-all.ensures

pub returns : goal.returns
returns c = kept-end _ _ _ _ _ c.loop-i.invariant c.loop-i-test.false
