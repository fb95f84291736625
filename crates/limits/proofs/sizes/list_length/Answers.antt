-- `limits::sizes::list_length` meets its contract: at most 8192 * 64. Assumes nothing.
use mathlib.Core.Path.{refl}
use Rattle.fold.specs.Laws.SizeBounds.{product-fits}
use Rattle.limits.proofs.sizes.list_length.Goals as goal

pub overflow_mul-result : goal.overflow_mul-result
overflow_mul-result c = product-fits _ _ 8192 64 c.requires.0 c.requires.1 tt

pub returns : goal.returns
returns c = refl
