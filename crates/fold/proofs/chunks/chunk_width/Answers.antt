-- `fold::chunks::chunk_width` meets its contract: a chunk of z, or one of the rest. Assumes nothing.
use native.Mathlib.Omega.{arith}
use native.Mathlib.Nat.{mod-lt}
use Rattle.fold.specs.Laws.SizeBounds.{product-fits}
use Rattle.fold.specs.Known.CutSizes.{width-first, width-later}
use Rattle.fold.proofs.chunks.chunk_width.Goals as goal

pub overflow_mul-of_z : goal.overflow_mul-of_z
overflow_mul-of_z c = product-fits _ _ 2 16 c.requires.tz_bound c.requires.cut_sizes.ν-small tt

pub chunk-requires : goal.chunk-requires
chunk-requires c =
    let a = c.args in
    let z = c.requires.cut_sizes in
    (omega (arith, z.n-small), z.ν-positive, z.ν-small, omega (arith, mod-lt a.s z.ν-positive, z.ν-small))

pub returns-then-s-of_z : goal.returns-then-s-of_z
returns-then-s-of_z c = width-first _ _ _ _ _ _ c.if-s-of_z.true c.chunk.ensures

pub returns : goal.returns
returns c = width-later _ _ _ _ _ _ c.if-s-of_z.false c.chunk-2.ensures
