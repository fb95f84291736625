-- `constraints::projected_rows::add_row` meets its contract. The loop has added the row to the first y coefficients.
use Rattle.std.proofs.Common.{arith}
use Rattle.constraints.specs.Laws.RowGroupLaws.{entry-one}
use Rattle.constraints.specs.Laws.ProjectedRowLaws.{row_step, element-small, element_place}
use Rattle.constraints.proofs.projected_rows.add_row.Goals as goal

pub offset_bounds-projections-at : goal.offset_bounds-projections-at
offset_bounds-projections-at c =
    let facts = c.requires.projection_facts in
    omega (arith, element-small facts c.requires.e_bound.1 c.requires.e_bound.0, facts.shaped.degree.small)

pub bounds-projections-at : goal.bounds-projections-at
bounds-projections-at c = element_place c.requires.projection_facts c.requires.e_bound.1 c.requires.e_bound.0 c.loop-y-test.true

pub add_entry-requires-clause-x_bound : goal.add_entry-requires-clause-x_bound
add_entry-requires-clause-x_bound c = entry-one _ _ c.requires.projection_facts.tested c.x-1.given

pub loop-y-preserved : goal.loop-y-preserved
loop-y-preserved c = row_step _ _ _ _ _ _ c.loop-y.invariant c.loop-y-test.true c.x-1.given c.add_entry.ensures
