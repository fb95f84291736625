use Rattle.fields.specs.Sections.{ends_line}
use Rattle.fields.specs.Laws.PlaceLaws.{Laid}
use Rattle.fields.proofs.walk.laid_end.Given as goal

abbrev pub invariant-loop-i : goal.invariant-loop-i
invariant-loop-i l = Laid (ends_line l.s) l.at l.text l.n l.here l.i
