-- `aggregation::second::weigh_pairs` meets its contract. The loop has added the pairs of the first i parts.
use Rattle.std.proofs.Common.{◌≡◌, sym, arith}
use Rattle.algebra.specs.Laws.TriangleLaws.{pair-zero}
use Rattle.fold.specs.Laws.SizeBounds.{pairs-bound}
use Rattle.aggregation.specs.Laws.RowLaws.{sums-start}
use Rattle.aggregation.specs.Laws.ValueLaws.{pair-room, pair-after, pairs-all}
use Rattle.aggregation.proofs.second.weigh_pairs.Goals as goal

pub loop-i-init : goal.loop-i-init
loop-i-init c = (sym (pair-zero c.args.shape.r), sums-start _ _)

pub overflow_add-at : goal.overflow_add-at
overflow_add-at c =
    let room = pair-room c.args.shape.r c.loop-i.i c.loop-i.invariant.0 c.loop-i-test.true in
    omega (arith, room, pairs-bound _ c.requires.terms.shaped.parts-small)

pub loop-i-preserved : goal.loop-i-preserved
loop-i-preserved c =
    let taken = c.loop-i-test.true in
    (pair-after c.args.shape.r c.loop-i.i c.loop-i.invariant.0 taken, c.add_part_pairs-more.ensures)

pub returns : goal.returns
returns c =
    let all : c.loop-i.i ≡ c.args.shape.r = omega (arith, c.loop-i.invariant.0, c.loop-i-test.false) in
    pairs-all _ _ _ _ _ _ _ c.loop-i.invariant.0 all c.loop-i.invariant.1
