-- `refusals::lengths::constant_terms_fit` meets its contract: the length asked for is that of `constant_terms_length`. Assumes nothing.
use Rattle.refusals.proofs.lengths.constant_terms_fit.Goals as goal

pub constant_terms_length-length-requires : goal.constant_terms_length-length-requires
constant_terms_length-length-requires c =
    let x = c.requires.0 in
    (x.degree.small, x.rank-small, x.parts-small, c.requires.1)

pub returns : goal.returns
returns c = rw c.constant_terms_length-length.ensures at c.sized.ensures
