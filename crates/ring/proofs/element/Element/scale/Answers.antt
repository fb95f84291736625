-- `ring::element::Element::scale` meets its contract.
use Rattle.std.proofs.Common.{to_z-of_z}
use Rattle.ring.proofs.element.Element.scale.Goals as goal

pub returns : goal.returns
returns c = rw (to_z-of_z c.ranges.c) at c.scaled.ensures
