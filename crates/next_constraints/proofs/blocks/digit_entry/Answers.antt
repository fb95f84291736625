-- `next_constraints::blocks::digit_entry` meets its contract.
use Rattle.std.proofs.Common.{refl, sym, ap, ◌∙◌, to_z, of_z}
use Rattle.std.specs.Int.{w32}
use Rattle.ring.specs.Element.{R, el, array, number}
use Rattle.ring.specs.Laws.ElementLaws.{lift-array}
use Rattle.next_constraints.specs.Laws.Powers.{digit-here, digit_elsewhere}
use Rattle.next_constraints.proofs.blocks.digit_entry.Goals as goal

pub returns-then-j-digits : goal.returns-then-j-digits
returns-then-j-digits c =
    let a = c.args in
    let small = c.requires.degree.small in
    let entry = el a.d a.xs.now a.i in
    let weight = number a.d (to_z w32 (of_z w32 c.power.result)) in
    digit-here a.d a.digits _ a.i a.e a.j _ (array a.d entry) _ small c.if-j-digits.true c.power.ensures refl
    (c.weighted.ensures ∙ ap (λ u. array a.d ((R a.d).mul weight u)) (sym (lift-array a.d entry small)))

pub returns-else-j-digits : goal.returns-else-j-digits
returns-else-j-digits c =
    let a = c.args in
    digit_elsewhere a.d a.digits _ a.i a.e a.j _ c.if-j-digits.false (c.additive_identity.ensures a.d)
