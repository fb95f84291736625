-- `fold::counts::pair_count` meets its contract: twice the pairs is r (r + 1), at most 16 * 17. Assumes nothing.
use Prim.Native.Nat.{◌+◌}
use native.Mathlib.Omega.{arith}
use Rattle.fold.specs.Laws.SizeBounds.{product-bound, pairs-half}
use Rattle.fold.proofs.counts.pair_count.Goals as goal

pub overflow_mul-result : goal.overflow_mul-result
overflow_mul-result c = omega (arith, product-bound c.args.r (c.args.r + 1) 16 17 c.requires (omega arith))

pub returns : goal.returns
returns c = pairs-half _
