use Rattle.ring.specs.Element.{lift}
use Rattle.ring.specs.Laws.Writers.{Elements}
use Rattle.next_constraints.specs.Folded.{plus_multiple}
use Rattle.next_constraints.proofs.folded.add_multiples.Given as goal

abbrev pub invariant-loop-k : goal.invariant-loop-k
invariant-loop-k l = Elements l.d 0 l.n (plus_multiple l.d l.initial.out l.list (lift l.d l.weight.coefficients)) l.initial.out l.k l.out
