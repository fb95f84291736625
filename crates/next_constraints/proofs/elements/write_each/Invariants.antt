use Rattle.std.proofs.Common.{◌≡◌, ℕ, length}
use Rattle.ring.specs.Element.{R}
use Rattle.ring.specs.Laws.Writers.{Elements}
use Rattle.next_constraints.specs.Entries.{Gives}
use Rattle.next_constraints.proofs.elements.write_each.Given as goal

abbrev pub invariant-loop-k : goal.invariant-loop-k
invariant-loop-k g l = record {
  same : length l.out ≡ length l.initial.out;
  written : (x : ℕ → (R l.d).Carrier) → Gives l.d l.count (goal.F-post g l.entry) x → Elements l.d l.at l.count x l.initial.out l.k l.out;
}
