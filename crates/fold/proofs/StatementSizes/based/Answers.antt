-- `fold::StatementSizes::based` meets its contract: the base is that of z's digits. Assumes nothing.
use mathlib.Core.Path.{refl}
use Rattle.fold.proofs.StatementSizes.based.Goals as goal

pub returns : goal.returns
returns c = rw c.base.ensures refl
