-- `constraints::projected_rows::projection_row` meets its contract.
use Rattle.std.proofs.Common.{◌∙◌}
use Rattle.constraints.specs.Laws.ProjectedRowLaws.{summed_start, row-end}
use Rattle.constraints.proofs.projected_rows.projection_row.Goals as goal

pub add_groups-requires-clause-summed : goal.add_groups-requires-clause-summed
add_groups-requires-clause-summed c = summed_start _ _ _ _ _ _ c.requires.projection_facts.shaped.degree.small

pub returns : goal.returns
returns c = c.centred_row.ensures ∙ row-end _ _ _ _ _ _ _ c.add_rest.ensures
