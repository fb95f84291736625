-- `next_checks::spread::move_chunk` meets its contract. The loop's invariant: the first k elements are moved.
use mathlib.Core.Path.{refl, ap, ◌∙◌}
use Prim.Native.Nat.{◌*◌, ◌≤◌}
use native.Mathlib.Omega.{arith}
use lib.ListN.{length}
use Rattle.ring.specs.Element.{array}
use Rattle.ring.specs.Laws.Writers.{elements-start, elements-turn, elements-end}
use Rattle.fold.specs.Messages.{elements}
use Rattle.fold.proofs.Laws.WriterLaws.{length-elements}
use Rattle.next_checks.specs.Spread.{chunk_entry}
use Rattle.next_checks.specs.Laws.SpreadLaws.{chunk_kept}
use Rattle.next_checks.proofs.spread.move_chunk.Goals as goal

pub loop-k-init : goal.loop-k-init
loop-k-init c = elements-start c.requires.at_le_from.2

pub loop-k-preserved : goal.loop-k-preserved
unfolding elements
loop-k-preserved c =
    let a = c.args in
    let x = chunk_entry a.d a.out.now a.from a.size in
    let room : a.at * a.d ≤ length a.out.now = omega (arith, c.requires.at_le_from.2) in
    let kept = chunk_kept a.d a.out.now a.from a.size a.at c.loop-k.k x room c.requires.at_le_from.0 c.loop-k.invariant.is
    (length-elements a.d c.loop-k.k x) in
    elements-turn c.loop-k.invariant c.requires.degree refl c.loop-k-test.true
    (c.chunk_entry-element.ensures ∙ ap (array a.d) kept) c.store.ensures

pub returns : goal.returns
unfolding elements
returns c = elements-end c.loop-k.invariant c.loop-k-test.false
