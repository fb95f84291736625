-- `fold::chunks::ceiling` meets its contract. Assumes nothing.
use mathlib.Core.Path.{refl}
use Rattle.fold.specs.Sizes.{ceiling}
use Rattle.fold.proofs.chunks.ceiling.Goals as goal

pub returns : goal.returns
unfolding ceiling
returns c = refl
