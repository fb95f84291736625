-- `next_constraints::elements::write_each` meets its contract. The loop's invariant: the first k elements are written.
use Rattle.std.proofs.Common.{refl, ◌∙◌}
use Rattle.fold.specs.Messages.{elements}
use Rattle.ring.specs.Laws.Writers.{elements-start, elements-turn, elements-end}
use Rattle.next_constraints.proofs.elements.write_each.Goals as goal

pub loop-k-init : goal.loop-k-init
loop-k-init g c = record { same = refl; written = λ x gives. elements-start c.requires.d_in_bounds }

pub loop-k-preserved : goal.loop-k-preserved
loop-k-preserved g c = record {
  same = c.store.auto.out ∙ c.loop-k.invariant.same;
  written = λ x gives.
      elements-turn (c.loop-k.invariant.written x gives) c.requires.degree refl c.loop-k-test.true
      (gives.given c.loop-k.k c.loop-k-test.true c.entry.result c.entry.ensures) c.store.ensures;
}

pub returns : goal.returns
unfolding elements
returns g c = λ x gives. elements-end (c.loop-k.invariant.written x gives) c.loop-k-test.false
