use Rattle.std.proofs.Common.{◌*◌, drop}
use Rattle.ring.specs.Laws.Loops.{Tested}
use Rattle.bare.specs.Refusals.{unmixed}
use Rattle.bare_refusals.proofs.unmixed.each_unmixed.Given as goal

abbrev pub invariant-loop-k : goal.invariant-loop-k
invariant-loop-k l = Tested l.count (λ k. unmixed l.d l.r (drop (k * l.step) l.xs)) l.k l.all
