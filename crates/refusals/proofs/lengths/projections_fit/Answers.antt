-- `refusals::lengths::projections_fit` meets its contract: the length asked for is that of `projection_length`. Assumes nothing.
use Rattle.refusals.proofs.lengths.projections_fit.Goals as goal

pub projection_length-length-requires : goal.projection_length-length-requires
projection_length-length-requires c =
    let x = c.requires.0 in
    (x.degree.small, x.rank-small, x.parts-small, c.requires.1)

pub returns : goal.returns
returns c = rw c.projection_length-length.ensures at c.sized.ensures
