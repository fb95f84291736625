-- `ring::product::load` meets its contract. The loop has filled the first i places.
use Rattle.std.proofs.Common.{refl}
use Rattle.ring.specs.Laws.ProductArrays.{residue_el, residues_step}
use Rattle.ring.specs.Laws.Loops.{counted_step}
use Rattle.ring.proofs.product.load.Goals as goal

pub loop-i-preserved : goal.loop-i-preserved
loop-i-preserved c =
    counted_step c.loop-i-test.true (
    residues_step c.requires.degree c.loop-i-test.true c.loop-i.invariant.held
    (residue_el _ c.args.u.now c.args.p _ (record { sfits = c.residue-arg-1.given })
    c.loop-i-test.true refl c.residue.ensures))
