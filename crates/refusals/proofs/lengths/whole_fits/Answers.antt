-- `refusals::lengths::whole_fits` meets its contract: the length asked for is that of `whole_length`. Assumes nothing.
use Rattle.refusals.proofs.lengths.whole_fits.Goals as goal

pub whole_length-length-requires : goal.whole_length-length-requires
whole_length-length-requires c =
    let x = c.requires.0 in
    (x.degree.small, x.rank-small, x.parts-small, c.requires.1)

pub returns : goal.returns
returns c = rw c.whole_length-length.ensures at c.sized.ensures
