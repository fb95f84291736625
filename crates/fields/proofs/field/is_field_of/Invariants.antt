use Rattle.fields.specs.Laws.FieldSteps.{Matching}
use Rattle.fields.proofs.field.is_field_of.Given as goal

abbrev pub invariant-loop-left : goal.invariant-loop-left
invariant-loop-left l = Matching l.text l.at l.minus l.m l.left l.rest l.due
