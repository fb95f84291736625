-- `fold::chunks::chunk_start` meets its contract. The loop's invariant: `at` is the start of part k. Assumes nothing.
use native.Mathlib.Omega.{arith}
use Rattle.fold.specs.Known.CutSizes.{begun-start, begun-step, begun-end, width_small}
use Rattle.fold.proofs.chunks.chunk_start.Goals as goal

pub loop-k-init : goal.loop-k-init
loop-k-init c = begun-start _ _ _ _ _ _

pub chunk_width-at-requires : goal.chunk_width-at-requires
chunk_width-at-requires c =
    record { tz_bound = c.requires.tz_bound; cut_sizes = c.requires.cut_sizes; s_le_most_chunks = omega (arith, c.loop-k.invariant.below, c.loop-k-test.true, c.requires.s_le_most_chunks) }

pub overflow_add-at : goal.overflow_add-at
overflow_add-at c =
    omega (
      arith,
      c.chunk_width-at.ensures,
      width_small c.args.tz _ _ _ _ c.requires.cut_sizes c.loop-k.k,
      c.loop-k.invariant.small,
      c.loop-k.invariant.below,
      c.requires.s_le_most_chunks,
    )

pub loop-k-preserved : goal.loop-k-preserved
loop-k-preserved c = begun-step _ _ _ _ _ _ c.requires.cut_sizes c.loop-k.invariant c.loop-k-test.true c.chunk_width-at.ensures

pub returns : goal.returns
returns c = begun-end _ _ _ _ _ _ c.loop-k.invariant c.loop-k-test.false
