-- `constraints::row_groups::group_codes` meets its contract. The loop has written the codes of the first groups.
use Rattle.constraints.specs.Laws.RowGroupLaws.{groups_step}
use Rattle.constraints.specs.Laws.ProjectedRowLaws.{group-place}
use Rattle.constraints.proofs.row_groups.group_codes.Goals as goal

pub write_codes-requires-clause-step_in_bounds : goal.write_codes-requires-clause-step_in_bounds
write_codes-requires-clause-step_in_bounds c = group-place c.requires.projection_facts c.loop-g-test.true c.requires.e_bound.0

pub loop-g-preserved : goal.loop-g-preserved
loop-g-preserved c = groups_step c.requires.projection_facts.shaped.degree.small c.loop-g.invariant c.write_codes.ensures
