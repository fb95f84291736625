-- `refusals::ranges::is_element` meets its contract. Assumes nothing.
use Rattle.refusals.specs.Laws.ProductLaws.{element-tests}
use Rattle.refusals.proofs.ranges.is_element.Goals as goal

pub returns : goal.returns
returns c = element-tests _ _ c.are_coefficients.ensures c.vanishes_from.ensures
