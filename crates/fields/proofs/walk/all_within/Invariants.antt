use Rattle.fields.specs.Sections.{ends_line}
use Rattle.fields.specs.Laws.WalkLaws.{Ranged}
use Rattle.fields.proofs.walk.all_within.Given as goal

abbrev pub invariant-loop-j : goal.invariant-loop-j
invariant-loop-j l = Ranged (ends_line l.s) l.text l.from l.start l.count l.bound l.here l.j
