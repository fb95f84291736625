use Prim.Native.Nat.{◌+◌}
use Rattle.ring.specs.Element.{R, el, same}
use Rattle.ring.specs.Laws.Loops.{Tested}
use Rattle.bare_refusals.proofs.unmixed.zeros.Given as goal

abbrev pub invariant-loop-k : goal.invariant-loop-k
invariant-loop-k l = Tested l.count (λ k. same l.d (el l.d l.xs (l.place + k)) (R l.d).zero) l.k l.all
