use Rattle.std.proofs.Common.{◌≡◌, ℕ, ◌-◌, length}
use Rattle.algebra.specs.Triangle.{start}
use Rattle.ring.specs.Element.{R}
use Rattle.fold.proofs.Laws.WriterLaws.{Rows}
use Rattle.next_constraints.specs.Entries.{GivesPairs}
use Rattle.next_constraints.proofs.elements.write_pairs.Given as goal

abbrev pub invariant-loop-i : goal.invariant-loop-i
invariant-loop-i g l = record {
  same : length l.out ≡ length l.initial.out;
  place : l.at ≡ start (λ k. l.r - k) l.i-counter;
  written : (x : ℕ → ℕ → (R l.d).Carrier) → GivesPairs l.d l.r (goal.F-post g l.entry) x → Rows l.d l.r x l.initial.out l.i-counter l.at l.out;
}
