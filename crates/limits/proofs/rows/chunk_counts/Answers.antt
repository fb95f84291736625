-- `limits::rows::chunk_counts` meets its contract: row 5. Assumes nothing.
use Rattle.limits.specs.Laws.CountLaws.{many_ν, many_μ, chunk-tests}
use native.Mathlib.Omega.{arith}
use Rattle.fold.specs.Limits.{most_chunks}
use Rattle.fold.specs.Laws.SizeBounds.{product-fits, product-bound}
use Rattle.limits.proofs.rows.chunk_counts.Goals as goal

pub returns-then-nu-gt-MOST_CHUNKS : goal.returns-then-nu-gt-MOST_CHUNKS
returns-then-nu-gt-MOST_CHUNKS c = many_ν _ _ _ c.requires.0 c.if-nu-gt-MOST_CHUNKS.true

pub returns-then-mu-gt-MOST_CHUNKS : goal.returns-then-mu-gt-MOST_CHUNKS
returns-then-mu-gt-MOST_CHUNKS c = many_μ _ _ _ c.if-mu-gt-MOST_CHUNKS.true

pub overflow_mul-together : goal.overflow_mul-together
overflow_mul-together c = let p = c.requires in product-fits _ _ 2 most_chunks p.1 (omega (arith, c.if-nu-gt-MOST_CHUNKS.false)) tt

pub overflow_add-together : goal.overflow_add-together
overflow_add-together c =
    let a = c.args in
    let p = c.requires in
    omega (arith, product-bound a.tz a.nu 2 most_chunks p.1 (omega (arith, c.if-nu-gt-MOST_CHUNKS.false)), c.if-mu-gt-MOST_CHUNKS.false)

pub returns : goal.returns
returns c = chunk-tests _ _ _
