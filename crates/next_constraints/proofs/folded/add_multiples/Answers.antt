-- `next_constraints::folded::add_multiples` meets its contract. The loop's invariant: the first k elements are written.
use mathlib.Core.Path.{sym}
use native.Mathlib.Nat.{zero-add}
use Rattle.fold.specs.Messages.{elements}
use Rattle.ring.specs.Laws.Writers.{elements_start₀, elements-turn, elements_end₀}
use Rattle.next_constraints.specs.Laws.FoldedLaws.{multiple_end}
use Rattle.next_constraints.proofs.folded.add_multiples.Goals as goal

pub loop-k-init : goal.loop-k-init
loop-k-init c = elements_start₀ c.requires.d_in_bounds.1

pub loop-k-preserved : goal.loop-k-preserved
loop-k-preserved c =
    let degree = c.requires.degree in
    let value = multiple_end c.args.list.now c.args.weight.coefficients degree.small c.loop-k.invariant c.from_slice.ensures
    c.product-multiple.ensures c.from_slice-in-loop-k.ensures c.sum-sum.ensures in
    elements-turn c.loop-k.invariant degree (sym (zero-add _)) c.loop-k-test.true value c.store.ensures

pub returns : goal.returns
unfolding elements
returns c = elements_end₀ c.loop-k.invariant c.loop-k-test.false
