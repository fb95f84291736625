use Rattle.fields.specs.Sections.{ends_line}
use Rattle.fields.specs.Laws.WalkLaws.{Walked}
use Rattle.fields.proofs.walk.place_after.Given as goal

abbrev pub invariant-loop-j : goal.invariant-loop-j
invariant-loop-j l = Walked (ends_line l.s) l.text l.from l.start l.count l.here l.j
