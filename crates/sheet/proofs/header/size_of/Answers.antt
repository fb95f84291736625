-- `sheet::header::size_of` meets its contract. Assumes nothing.
use mir.Facts.{to_z-of_z}
use Rattle.sheet.specs.Laws.HeaderLaws.{size-negative, size-positive}
use Rattle.sheet.proofs.header.size_of.Goals as goal

pub returns-then-x-lt0 : goal.returns-then-x-lt0
returns-then-x-lt0 c = size-negative c.args.x (rw (to_z-of_z c.ranges.x) at c.if-x-lt0.true)

pub returns-else-x-lt0 : goal.returns-else-x-lt0
returns-else-x-lt0 c =
    let is = to_z-of_z c.ranges.x in
    rw is (size-positive c.args.x (rw is at c.if-x-lt0.false))
