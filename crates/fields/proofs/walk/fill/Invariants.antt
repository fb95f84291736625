use Rattle.fields.specs.Sections.{ends_line}
use Rattle.fields.specs.Laws.WalkLaws.{Filled}
use Rattle.fields.proofs.walk.fill.Given as goal

abbrev pub invariant-loop-j : goal.invariant-loop-j
invariant-loop-j l = Filled (ends_line l.s) l.text l.from l.start l.count l.initial.out l.out l.here l.j
