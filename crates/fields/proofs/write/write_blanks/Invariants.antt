use Rattle.fields.specs.Laws.WriteLaws.{Blanked}
use Rattle.fields.proofs.write.write_blanks.Given as goal

abbrev pub invariant-loop-k : goal.invariant-loop-k
invariant-loop-k l = Blanked l.initial.text l.text l.at l.k
