-- `sheet::reader::challenges_ok` meets its contract.
use mathlib.Core.Path.{sym, ap, ◌∙◌}
use native.Mathlib.Omega.{arith}
use Prim.Native.Nat.{◌+◌, ◌*◌, ◌≤◌}
use Rattle.fields.specs.Sections.{total}
use Rattle.fold.specs.Refusals.{challenges}
use Rattle.sheet.specs.Laws.ListLaws.{challenges-part}
use Rattle.sheet.specs.Laws.ReadingLaws.{lines-positive, front-span, later-span, body-part, body-coefficients, challenges-end}
use Rattle.sheet.proofs.reader.challenges_ok.Goals as goal

pub place_after-start-requires : goal.place_after-start-requires
place_after-start-requires c =
    let lines = c.sections_of-q.ensures in record { d_nonzero = lines-positive c.requires.inside.bounded lines; span = front-span c.requires.inside lines _ (omega (arith, c.challenges_from-from.ensures, challenges-end c.args.s)) }

pub are_challenges-requires : goal.are_challenges-requires
are_challenges-requires c =
    let s = c.args.s in
    let lines = c.sections_of-q.ensures in
    let positive = lines-positive c.requires.inside.bounded lines in
    let from = c.challenges_from-from in
    let inside : from.result + s.shape.r * s.shape.d ≤ total s = omega (arith, from.ensures, challenges-end s) in record { d_nonzero = (positive.0, positive.1, c.requires.inside.bounded.shaped.degree.small, c.requires.inside.bounded.shaped.parts-small); span = later-span c.requires.inside lines _ _ inside c.place_after-start.ensures; d_value = body-coefficients c.requires.inside lines _ _ inside c.requires.text_value }

pub returns : goal.returns
returns c =
    c.are_challenges.ensures
    ∙ ap (challenges c.args.s.shape.d c.args.s.shape.r)
    (rw c.challenges_from-from.ensures
    (sym (challenges-part c.args.s _ ∙ body-part c.requires.inside c.sections_of-q.ensures _ _ (challenges-end c.args.s))))
