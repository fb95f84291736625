-- `ring::element::Element::multiplicative_identity` meets its contract.
use Rattle.std.proofs.Common.{sym}
use Rattle.ring.specs.Laws.ElementArrays.{array-one}
use Rattle.ring.proofs.element.Element.multiplicative_identity.Goals as goal

pub returns : goal.returns
returns c = λ d h. sym (array-one d h)
