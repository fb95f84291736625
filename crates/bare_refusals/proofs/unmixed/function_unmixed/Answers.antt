-- `bare_refusals::unmixed::function_unmixed` meets its contract. The rows so far are tested, and the next one starts at `at`. Assumes nothing.
use Rattle.std.proofs.Common.{◌+◌, ◌-◌, ◌≤◌, refl, ◌∙◌, arith, mul-le-mul_right}
use Rattle.algebra.specs.Triangle.{start}
use Rattle.ring.specs.Laws.Loops.{tested-start, tested-step, tested-end}
use Rattle.fold.specs.Sizes.{pairs}
use Rattle.fold.specs.Laws.SizeBounds.{pairs-bound}
use Rattle.bare.specs.Refusals.{unmixed}
use Rattle.bare_refusals.specs.Laws.RowLaws.{row_within, row_next, zero_row}
use Rattle.bare_refusals.proofs.unmixed.function_unmixed.Goals as goal

-- the row lies within the pairs, of which there are few
within : (c : goal.In-loop-i) → (c.loop-i.at + 1 + (c.args.r - 1 - c.loop-i.i) ≤ pairs c.args.r) × (pairs c.args.r ≤ 136)
within c =
    (row_within c.args.r c.loop-i.i c.loop-i-test.true c.loop-i.invariant.1, pairs-bound c.args.r c.requires.r_le_most_parts.0)

pub loop-i-init : goal.loop-i-init
unfolding start
loop-i-init c = (tested-start, refl)

pub overflow_add-at : goal.overflow_add-at
overflow_add-at c = omega (arith, within c)

pub zeros-all-requires-clause-d_in_bounds : goal.zeros-all-requires-clause-d_in_bounds
zeros-all-requires-clause-d_in_bounds c = omega (arith, mul-le-mul_right c.args.d (within c).0, c.requires.r_le_most_parts.1)

pub overflow_add-at-in-loop-i : goal.overflow_add-at-in-loop-i
overflow_add-at-in-loop-i c = omega (arith, within c.before)

pub loop-i-preserved : goal.loop-i-preserved
loop-i-preserved c =
    let a = c.args in
    let at = c.loop-i.invariant.1 in (
      tested-step c.loop-i.invariant.0 c.loop-i-test.true (c.zeros-all.ensures ∙ zero_row a.d a.r c.loop-i.i a.xs.now at),
      row_next a.r c.loop-i.i at,
    )

pub returns : goal.returns
unfolding unmixed
returns c = tested-end c.loop-i.invariant.0 c.loop-i-test.false
