-- `checks::recomposed::garbage_of` meets its contract.
use Rattle.std.proofs.Common.{refl, ap, ◌∙◌}
use Rattle.ring.specs.Element.{array}
use Rattle.checks.specs.Laws.PlaceLaws.{garbage-recomposed}
use Rattle.checks.proofs.recomposed.garbage_of.Goals as goal

pub returns : goal.returns
returns c =
    let a = c.args in
    c.recompose.ensures ∙ ap (array a.d) (garbage-recomposed a.d a.b a.t _ a.place a.q _ refl)
