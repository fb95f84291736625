-- `fold::chunks::chunk` meets its contract: past the end, short or full. Assumes nothing.
use native.Mathlib.Omega.{arith}
use Rattle.fold.specs.Laws.SizeBounds.{product-fits}
use Rattle.fold.specs.Known.CutSizes.{ceiling-bound, chunk-empty, chunk-short, chunk_full}
use Rattle.fold.proofs.chunks.chunk.Goals as goal

pub overflow_mul-before : goal.overflow_mul-before
overflow_mul-before c =
    let a = c.args in
    let p = c.requires in
    product-fits _ _ 16 8207 p.3 (omega (arith, c.ceiling-size.ensures, ceiling-bound a.whole a.count, p.0, p.2)) tt

pub returns-then-whole-before : goal.returns-then-whole-before
returns-then-whole-before c = chunk-empty _ _ _ c.ceiling-size.ensures c.if-whole-before.true

pub returns-then-left-size : goal.returns-then-left-size
returns-then-left-size c = chunk-short _ _ _ c.ceiling-size.ensures c.if-left-size.true

pub returns-else-left-size : goal.returns-else-left-size
returns-else-left-size c = chunk_full _ _ _ c.ceiling-size.ensures c.if-left-size.false
