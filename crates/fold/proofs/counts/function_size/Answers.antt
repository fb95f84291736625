-- `fold::counts::function_size` meets its contract: at most 136 pairs and 16 * 256 elements. Assumes nothing.
use native.Mathlib.Omega.{arith}
use mathlib.Core.Path.{ap}
use Prim.Native.Nat.{◌+◌, ◌*◌}
use Rattle.fold.specs.Sizes.{function_size}
use Rattle.fold.specs.Laws.SizeBounds.{product-fits, product-bound, pairs-bound}
use Rattle.fold.proofs.counts.function_size.Goals as goal

pub overflow_mul-result : goal.overflow_mul-result
overflow_mul-result c = product-fits _ _ 16 256 c.requires.1 c.requires.0 tt

pub overflow_add-result : goal.overflow_add-result
overflow_add-result c =
    omega (
      arith,
      c.pair_count.ensures,
      pairs-bound c.args.r c.requires.1,
      product-bound c.args.r c.args.n 16 256 c.requires.1 c.requires.0,
    )

pub returns : goal.returns
unfolding function_size
returns c = ap (λ x. x + c.args.r * c.args.n) c.pair_count.ensures
