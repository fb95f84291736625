use Rattle.std.proofs.Common.{◌≡◌, ℕ, ◌<◌, ℤ, pos}
use Rattle.ring.specs.Laws.Loops.{Filling}
use Rattle.ring.proofs.table.tabulated.Given as goal

abbrev pub invariant-loop-k : goal.invariant-loop-k
invariant-loop-k g l = (h : ℕ → ℤ) → ((k : ℕ) (x : ℤ) → k < l.d → goal.F-post g l.f k x → x ≡ h k) → Filling 64 l.d h (pos 0) l.k l.out
