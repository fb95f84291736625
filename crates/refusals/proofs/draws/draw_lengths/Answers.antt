-- `refusals::draws::draw_lengths` meets its contract: the constraints with their draws, then the challenges. Assumes nothing.
use native.Mathlib.Omega.{arith}
use Rattle.limits.specs.Laws.RowLaws.{end, ◌&◌, joined-row}
use Rattle.limits.specs.Laws.StageLaws.{append-rows}
use Rattle.refusals.specs.Known.ConstraintSized.{verify-constraints}
use Rattle.refusals.proofs.draws.draw_lengths.Goals as goal

pub constraint_lengths-requires : goal.constraint_lengths-requires
constraint_lengths-requires c = verify-constraints c.args.sizes c.requires

pub list_fits-requires : goal.list_fits-requires
list_fits-requires c =
    let l = c.requires in
    (omega (arith, l.shaped.parts-small), l.shaped.degree.small)

pub returns : goal.returns
returns c = append-rows _ _ c.constraint_lengths.ensures (joined-row (c.list_fits.ensures & end))
