use mathlib.Core.Path.{◌≡◌}
use Prim.Native.Nat.{suc, ◌+◌, ◌-◌}
use Rattle.algebra.specs.Triangle.{start, pair}
use Rattle.ring.specs.Element.{R, el, every, same}
use Rattle.ring.specs.Laws.Loops.{Tested}
use Rattle.bare_refusals.proofs.unmixed.function_unmixed.Given as goal

abbrev pub invariant-loop-i : goal.invariant-loop-i
invariant-loop-i l = Tested l.r (λ i. every (l.r - suc i) (λ k. same l.d (el l.d l.xs (pair l.r i (suc i + k))) (R l.d).zero)) l.i l.all × (l.at ≡ start (λ k. l.r - k) l.i)
