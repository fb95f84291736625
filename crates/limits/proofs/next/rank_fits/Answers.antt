-- `limits::next::rank_fits` meets its contract: the comparison of the table. Assumes nothing.
use mathlib.Core.Path.{refl}
use Rattle.limits.proofs.next.rank_fits.Goals as goal

pub returns : goal.returns
returns c = refl
