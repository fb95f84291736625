-- `aggregation::products::write_products` meets its contract. The loop's invariant: the first i rows are written.
use Rattle.std.proofs.Common.{◌≡◌, ◌∙◌, ◌+◌, ◌*◌, zero-mul, mul_assoc, arith, pos}
use lib.ListN.{length-replicate}
use Rattle.aggregation.specs.Garbage.{square_elements}
use Rattle.aggregation.specs.Laws.GarbageLaws.{row_written}
use Rattle.fold.proofs.Laws.WriterLaws.{length-elements}
use Rattle.ring.specs.Laws.Writers.{blocks_start, blocks_over, blocks_end}
use Rattle.aggregation.proofs.products.write_products.Goals as goal

pub loop-i-init : goal.loop-i-init
loop-i-init c =
    let z = c.args.sizes.shape in
    (length-replicate 16384 (pos 0), rw (zero-mul (z.r * z.d)) (blocks_start (omega (arith, c.requires.witness_len.1))))

pub loop-i-preserved : goal.loop-i-preserved
loop-i-preserved c =
    let z = c.args.sizes.shape in
    let kept = c.write_phi_part.auto.out in
    let next : (c.loop-i.i + 1) * (z.r * z.d) ≡ c.loop-i.i * (z.r * z.d) + z.r * z.d = omega arith in
    let row = row_written z.d z.n z.r _ c.loop-i.i c.args.witness.now _ _ _ c.write_phi_part.ensures c.write_part_products.ensures in (
      kept ∙ c.loop-i.invariant.0,
      blocks_over c.loop-i.invariant.1 (λ i. length-elements z.d z.r _) c.loop-i-test.true
          (mul_assoc c.loop-i.i z.r z.d) next row,
    )

pub returns : goal.returns
unfolding square_elements
returns c = blocks_end c.loop-i.invariant.1 c.loop-i-test.false
