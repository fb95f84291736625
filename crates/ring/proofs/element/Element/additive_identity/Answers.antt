-- `ring::element::Element::additive_identity` meets its contract.
use Rattle.std.proofs.Common.{sym}
use Rattle.ring.specs.Laws.ElementArrays.{array-zero}
use Rattle.ring.proofs.element.Element.additive_identity.Goals as goal

pub returns : goal.returns
returns c = λ d. sym (array-zero d)
