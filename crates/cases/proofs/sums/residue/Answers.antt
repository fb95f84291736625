-- `cases::sums::residue` meets its contract. Assumes nothing.
use Rattle.std.proofs.Common.{ap, ◌∙◌, nat_abs, arith, to_z-of_z}
use Rattle.cases.specs.Laws.SumLaws.{residue_negative, residue_positive}
use Rattle.cases.proofs.sums.residue.Goals as goal

pub returns-then-x-lt0 : goal.returns-then-x-lt0
returns-then-x-lt0 c =
    let is = to_z-of_z c.ranges.x in
    let size = c.magnitude-rest.ensures ∙ ap nat_abs is in
    rw size (residue_negative 2147483647 (omega arith) c.args.x (rw is at c.if-x-lt0.true))

pub returns-else-x-lt0 : goal.returns-else-x-lt0
returns-else-x-lt0 c =
    let is = to_z-of_z c.ranges.x in
    let size = c.magnitude-rest.ensures ∙ ap nat_abs is in
    rw size (residue_positive 2147483647 (omega arith) c.args.x (rw is at c.if-x-lt0.false))
