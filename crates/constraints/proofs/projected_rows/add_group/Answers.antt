-- `constraints::projected_rows::add_group` meets its contract. The loop has added the four rows to the first y coefficients.
use Rattle.constraints.specs.Laws.ProjectedRowLaws.{group-step}
use Rattle.constraints.proofs.projected_rows.add_group.Goals as goal

pub loop-y-preserved : goal.loop-y-preserved
loop-y-preserved c =
    group-step _ _ _ _ _ _ c.requires.omega_sums c.requires.degree.2 c.loop-y.invariant c.loop-y-test.true
    (c.requires.codes_of.code c.args.group c.loop-y.y c.requires.degree.2 c.loop-y-test.true) c.add_five.ensures
