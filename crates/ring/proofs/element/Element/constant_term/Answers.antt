-- `ring::element::Element::constant_term` meets its contract.
use Rattle.std.proofs.Common.{get_or, pos}
use Rattle.ring.specs.Laws.ElementSteps.{stored-number}
use Rattle.ring.proofs.element.Element.constant_term.Goals as goal

pub returns : goal.returns
returns c =
    let x = get_or c.args.self.coefficients 0 (pos 0) in
    stored-number c.add.result x c.add-arg-1.given c.add.ensures
