use Rattle.std.proofs.Common.{◌≡◌, ◌+◌, ◌-◌, ◌*◌}
use Rattle.ring.specs.Element.{el, array}
use Rattle.ring.specs.Joined.{joined}
use Rattle.ring.proofs.coefficients.recomposed.Given as goal

abbrev pub invariant-loop-e : goal.invariant-loop-e
invariant-loop-e l = l.sum ≡ array l.d (joined l.d l.base (l.t - l.e) (λ i. el l.d l.xs (l.p + (l.e + i) * l.stride)))
