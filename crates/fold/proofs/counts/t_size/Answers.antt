-- `fold::counts::t_size` meets its contract: at most 16 * (8 * 8). Assumes nothing.
use mathlib.Core.Path.{refl}
use Rattle.fold.specs.Sizes.{t_size}
use Rattle.fold.specs.Laws.SizeBounds.{product-fits, product-bound}
use Rattle.fold.proofs.counts.t_size.Goals as goal

pub overflow_mul-result : goal.overflow_mul-result
overflow_mul-result c = product-fits _ _ 8 8 c.requires.2 c.requires.1 tt

pub overflow_mul-result-2 : goal.overflow_mul-result-2
overflow_mul-result-2 c = product-fits _ _ 16 64 c.requires.0 (product-bound _ _ 8 8 c.requires.2 c.requires.1) tt

pub returns : goal.returns
unfolding t_size
returns c = refl
