use Rattle.std.proofs.Common.{◌≡◌, ℕ, ◌+◌, ◌*◌, List, length, ℤ}
use Rattle.next_constraints.specs.Entries.{WritesBlocks}
use Rattle.next_constraints.specs.Laws.BlockLaws.{ElementBlocks}
use Rattle.next_constraints.proofs.elements.write_blocks.Given as goal

abbrev pub invariant-loop-k : goal.invariant-loop-k
invariant-loop-k g l = record {
  same : length l.out ≡ length l.initial.out;
  place_is : l.place ≡ l.at + l.k * l.width;
  written : (block : ℕ → List ℤ) → WritesBlocks l.d l.count l.width (goal.F-post g l.write) block
      → ElementBlocks l.d l.at l.count l.width block l.initial.out l.k l.place l.out;
}
