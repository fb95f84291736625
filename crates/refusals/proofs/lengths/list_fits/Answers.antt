-- `refusals::lengths::list_fits` meets its contract: the length asked for is that of `list_length`. Assumes nothing.
use Rattle.refusals.proofs.lengths.list_fits.Goals as goal

pub returns : goal.returns
returns c = rw c.list_length-length.ensures at c.sized.ensures
