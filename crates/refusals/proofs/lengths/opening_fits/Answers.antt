-- `refusals::lengths::opening_fits` meets its contract: the elements of an opening, each of d numbers. Assumes nothing.
use Rattle.limits.specs.Laws.SizeLaws.{opening-within}
use Rattle.refusals.proofs.lengths.opening_fits.Goals as goal

pub list_fits-requires : goal.list_fits-requires
list_fits-requires c =
    let p = c.requires in
    (opening-within _ _ _ _ _ _ c.opening_size-elements.ensures p.0 p.2 p.3 p.4 p.5 p.6, p.1)

pub returns : goal.returns
returns c = rw c.opening_size-elements.ensures at c.list_fits.ensures
