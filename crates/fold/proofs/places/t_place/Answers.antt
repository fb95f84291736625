-- `fold::places::t_place` meets its contract.
use mathlib.Core.Path.{refl}
use Rattle.fold.specs.Opening.{t_place}
use Rattle.fold.specs.Laws.SizeBounds.{product-fits}
use Rattle.fold.proofs.places.t_place.Goals as goal

pub overflow_mul-result : goal.overflow_mul-result
overflow_mul-result c = product-fits _ _ 2 256 c.requires.tz_bound c.requires.verify_sized.shaped.rank-small tt

pub returns : goal.returns
unfolding t_place
returns c = refl
