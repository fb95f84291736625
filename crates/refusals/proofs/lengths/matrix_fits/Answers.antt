-- `refusals::lengths::matrix_fits` meets its contract: the length asked for is that of `flat_length`. Assumes nothing.
use Rattle.refusals.proofs.lengths.matrix_fits.Goals as goal

pub returns : goal.returns
returns c = rw c.flat_length-length.ensures at c.sized.ensures
