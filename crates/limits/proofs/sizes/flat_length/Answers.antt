-- `limits::sizes::flat_length` meets its contract: at most 256 * 8192 * 64. Assumes nothing.
use mathlib.Core.Path.{refl}
use Rattle.fold.specs.Laws.SizeBounds.{product-fits, product-bound}
use Rattle.limits.proofs.sizes.flat_length.Goals as goal

pub overflow_mul-result : goal.overflow_mul-result
overflow_mul-result c = product-fits _ _ 256 8192 c.requires.0 c.requires.1 tt

pub overflow_mul-result-2 : goal.overflow_mul-result-2
overflow_mul-result-2 c = product-fits _ _ 2097152 64 (product-bound _ _ 256 8192 c.requires.0 c.requires.1) c.requires.2 tt

pub returns : goal.returns
returns c = refl
