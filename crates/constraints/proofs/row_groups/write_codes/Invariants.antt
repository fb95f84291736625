use Rattle.constraints.specs.RowGroups.{Codes}
use Rattle.constraints.proofs.row_groups.write_codes.Given as goal

abbrev pub invariant-loop-y : goal.invariant-loop-y
invariant-loop-y l = Codes l.projections l.at l.step l.from l.initial.codes l.y l.codes
