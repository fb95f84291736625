-- `constraints::row_groups::code_at` meets its contract: entries that were tested are at most 1.
use Rattle.constraints.specs.Laws.RowGroupLaws.{entry-one}
use Rattle.constraints.proofs.row_groups.code_at.Goals as goal

pub code-requires : goal.code-requires
code-requires c =
    let tested = c.requires.projections_value in (
      entry-one _ _ tested c.code-arg-1.given,
      entry-one _ _ tested c.code-arg-2-1.given,
      entry-one _ _ tested c.code-arg-3-1.given,
      entry-one _ _ tested c.code-arg-4-1.given,
    )
