-- `limits::rows::sized` meets its contract: the test of the table, as comparisons. Assumes nothing.
use mathlib.Core.Path.{refl}
use Rattle.fold.specs.Refusals.{sized}
use Rattle.limits.proofs.rows.sized.Goals as goal

pub returns : goal.returns
unfolding sized
returns c = refl
