use Rattle.fields.specs.Laws.WriteLaws.{Columns}
use Rattle.fields.proofs.write.write_columns.Given as goal

abbrev pub invariant-loop-left : goal.invariant-loop-left
invariant-loop-left l = Columns l.initial.text l.text l.at l.minus l.m l.left l.rest
