use Rattle.std.proofs.Common.{ℕ, ◌<◌, Bool, ◌≡◌}
use Rattle.ring.specs.Laws.Loops.{Tested}
use Rattle.checks.proofs.indices.every.Given as goal

abbrev pub invariant-loop-k : goal.invariant-loop-k
invariant-loop-k g l = (p : ℕ → Bool) → ((k : ℕ) → k < l.count → (b : Bool) → goal.F-post g l.test k b → b ≡ p k) → Tested l.count p l.k l.all
