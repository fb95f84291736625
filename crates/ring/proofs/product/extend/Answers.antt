-- `ring::product::extend` meets its contract. The loop has filled i places from place 1 on and their negatives.
use Rattle.std.proofs.Common.{refl, arith}
use Rattle.ring.specs.Laws.ProductArrays.{residue_el, residue_small, extended_step}
use Rattle.ring.specs.Laws.Loops.{counted_step}
use Rattle.ring.proofs.product.extend.Goals as goal

pub overflow_sub-e : goal.overflow_sub-e
overflow_sub-e c = omega (arith, residue_small _ c.residue-x.ensures)

pub loop-i-preserved : goal.loop-i-preserved
loop-i-preserved c =
    counted_step c.loop-i-test.true (
    extended_step c.requires.degree c.loop-i-test.true c.loop-i.invariant.held
    (residue_el _ c.args.v.now c.args.p _ (record { sfits = c.residue-arg-1.given })
    (omega arith) (omega arith) c.residue-x.ensures) refl)
