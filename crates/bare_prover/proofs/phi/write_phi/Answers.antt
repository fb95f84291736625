-- `bare_prover::phi::write_phi` meets its contract. The loop's invariant: φ_i of the first i parts is written. Assumes nothing.
use mathlib.Core.Path.{refl, sym, ◌∙◌}
use native.Mathlib.Omega.{arith}
use Rattle.integers.specs.Laws.OverLaws.{over-all}
use Rattle.ring.specs.Laws.Writers.{blocks_start, blocks_part, blocks_turn, blocks_all}
use Rattle.fold.proofs.Laws.WriterLaws.{length-elements}
use Rattle.bare.specs.Messages.{bare_phi}
use Rattle.bare_prover.proofs.phi.write_phi.Goals as goal

pub loop-i-init : goal.loop-i-init
loop-i-init c = blocks_start (omega (arith, c.requires.phi-length))

pub loop-i-preserved : goal.loop-i-preserved
loop-i-preserved c =
    let z = c.args.sizes.shape in
    let taken = c.loop-i-test.true in
    let block = c.write_phi_part.ensures ∙ over-all _ _ (length-elements z.d z.n _ ∙ sym (blocks_part c.loop-i.invariant taken)) in
    blocks_turn c.loop-i.invariant (λ i. length-elements z.d z.n _) taken block refl

pub returns : goal.returns
unfolding bare_phi
returns c =
    let z = c.args.sizes.shape in
    blocks_all c.loop-i.invariant (λ i. length-elements z.d z.n _) (omega (arith, c.requires.phi-length)) c.loop-i-test.false
