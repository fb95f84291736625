-- `limits::sizes::projection_length` meets its contract: rows of at most 16 * 256 elements. Assumes nothing.
use mathlib.Core.Path.{ap}
use Prim.Native.Nat.{◌*◌, ◌≤◌}
use Rattle.fold.specs.Limits.{most_parts, most_projections, most_rank}
use Rattle.fold.specs.Refusals.{projection_length}
use Rattle.fold.specs.Laws.SizeBounds.{product-fits, product-bound}
use Rattle.limits.proofs.sizes.projection_length.Goals as goal

pub overflow_mul-result : goal.overflow_mul-result
overflow_mul-result c =
    let p = c.requires in
    let row : c.flat_length-row.result ≤ most_parts * most_rank * 64 =
    rw c.flat_length-row.ensures (product-bound _ _ (most_parts * most_rank) 64 (product-bound _ _ most_parts most_rank p.2 p.1) p.0) in
    product-fits _ _ most_projections (most_parts * most_rank * 64) p.3 row tt

pub returns : goal.returns
unfolding projection_length
returns c = ap (λ x. c.args.w * x) c.flat_length-row.ensures
