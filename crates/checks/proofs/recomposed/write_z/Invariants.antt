use Rattle.ring.specs.Element.{el}
use Rattle.fold.specs.Opening.{z_of}
use Rattle.ring.specs.Laws.Writers.{Elements}
use Rattle.checks.proofs.recomposed.write_z.Given as goal

abbrev pub invariant-loop-k : goal.invariant-loop-k
invariant-loop-k l = Elements l.d 0 l.n (z_of l.d l.n l.tz l.b (el l.d l.opening)) l.initial.z l.k l.z
