-- `ring::element::Element::negation` meets its contract: a product by -1 is the opposite.
use Rattle.std.proofs.Common.{ap, ◌∙◌}
use Rattle.ring.specs.Element.{lift, array}
use Rattle.ring.specs.Laws.Numbers.{minus_one}
use Rattle.ring.proofs.element.Element.negation.Goals as goal

pub returns : goal.returns
returns c =
    let d = c.args.d in
    c.scaled.ensures ∙ ap (array d) (minus_one d (lift d c.args.self.coefficients))
