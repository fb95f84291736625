-- `ring::element::Element::indeterminate` meets its contract.
use Rattle.std.proofs.Common.{sym}
use Rattle.ring.specs.Laws.ElementArrays.{array-indeterminate}
use Rattle.ring.proofs.element.Element.indeterminate.Goals as goal

pub returns : goal.returns
returns c = λ d h. sym (array-indeterminate d h)
