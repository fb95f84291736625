-- `bare_refusals::unmixed::zeros` meets its contract. The elements so far are tested. Assumes nothing.
use mathlib.Core.Path.{ap₂, ◌∙◌}
use Rattle.ring.specs.Element.{same}
use Rattle.ring.specs.Laws.Loops.{tested-start, tested-step, held}
use Rattle.bare_refusals.proofs.unmixed.zeros.Goals as goal

pub loop-k-init : goal.loop-k-init
loop-k-init c = tested-start

pub loop-k-preserved : goal.loop-k-preserved
loop-k-preserved c =
    let a = c.args in
    let small = c.requires.degree.small in
    tested-step c.loop-k.invariant c.loop-k-test.true
    (c.equals-all.ensures ∙ ap₂ (same a.d) (held small c.from_slice.ensures) (held small (c.additive_identity-zero.ensures a.d)))
