-- `ring::element::Element::constant` meets its contract.
use Rattle.std.proofs.Common.{set, replicate, pos, sym, ap, ◌∙◌}
use Rattle.ring.specs.Laws.ElementSteps.{stored-number}
use Rattle.ring.specs.Laws.ElementArrays.{array-number}
use Rattle.ring.proofs.element.Element.constant.Goals as goal

pub returns : goal.returns
returns c =
    λ d h.
    let x = c.args.c in
    let number = stored-number c.add.result x c.ranges.c.sfits c.add.ensures in
    ap (set (replicate 64 (pos 0)) 0) number ∙ sym (array-number d h x)
