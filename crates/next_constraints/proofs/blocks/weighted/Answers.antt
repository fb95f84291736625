-- `next_constraints::blocks::weighted` meets its contract.
use Rattle.std.proofs.Common.{ap, ◌∙◌, to_z, of_z, to_z-of_z}
use Rattle.std.specs.Int.{w32}
use Rattle.ring.specs.Element.{R, el, array, number}
use Rattle.ring.specs.Laws.Loops.{held}
use Rattle.next_constraints.proofs.blocks.weighted.Goals as goal

pub returns : goal.returns
returns c =
    let d = c.args.d in
    c.scale.ensures
    ∙ ap (λ u. array d ((R d).mul (number d (to_z w32 (of_z w32 c.args.weight))) u)) (held c.requires.degree.small c.from_slice.ensures)
    ∙ ap (λ z. array d ((R d).mul (number d z) (el d c.args.xs.now c.args.i))) (to_z-of_z c.ranges.weight)
