-- `ring::element::Element::difference` meets its contract: the opposite is added.
use Rattle.std.proofs.Common.{ap, ◌∙◌}
use Rattle.ring.specs.Element.{R, lift, array}
use Rattle.ring.specs.Laws.ElementLaws.{lift-array}
use Rattle.ring.specs.Laws.Numbers.{minus_one}
use Rattle.ring.proofs.element.Element.difference.Goals as goal

pub returns : goal.returns
returns c =
    let d = c.args.d in
    let a = lift d c.args.self.coefficients in
    let b = lift d c.args.other.coefficients in
    let minus = ap (lift d) c.scaled-minus.ensures ∙ lift-array d _ c.requires.small ∙ minus_one d b in
    c.added.ensures ∙ ap (λ u. array d ((R d).add a u)) minus
