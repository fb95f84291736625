use Rattle.fields.specs.Sections.{ends_line}
use Rattle.fields.specs.Laws.ChallengeLaws.{Challenged}
use Rattle.fields.proofs.walk.are_challenges.Given as goal

abbrev pub invariant-loop-e : goal.invariant-loop-e
invariant-loop-e l = Challenged (ends_line l.s) l.text l.from l.start l.d l.r l.here l.e
