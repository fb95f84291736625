-- `prover::garbage::write_digits` meets its contract. The loop's invariant: the blocks of the first e elements are written.
use Rattle.std.proofs.Common.{◌≡◌, refl, ◌+◌, ◌*◌, zero-mul, arith}
use Rattle.ring.specs.Laws.Writers.{blocks_start, blocks_turn, blocks_all}
use Rattle.fold.proofs.Laws.WriterLaws.{length_digits}
use Rattle.prover.proofs.garbage.write_digits.Goals as goal

pub loop-e-init : goal.loop-e-init
loop-e-init c = rw zero-mul (blocks_start (omega (arith, c.requires.t_nonzero.3)))

pub loop-e-preserved : goal.loop-e-preserved
loop-e-preserved c =
    let a = c.args in
    let width = a.t * a.d in
    let next : (c.loop-e.e + 1) * width ≡ c.loop-e.e * width + width = omega arith in
    rw next
    (blocks_turn c.loop-e.invariant (λ i. length_digits a.d a.base a.t _) c.loop-e-test.true c.write_element_digits.ensures refl)

pub returns : goal.returns
returns c =
    let a = c.args in
    blocks_all c.loop-e.invariant (λ i. length_digits a.d a.base a.t _) c.requires.t_nonzero.3 c.loop-e-test.false
