-- `prover::project::project_row` meets its contract. The loop's invariant: the accumulator is the sum of the first y summands, at most
-- y * 2^31.
use Rattle.std.proofs.Common.{to_z-of_z, w64}
use mir.Facts.{of_z-to_z}
use Rattle.prover.specs.Laws.ProjectedLaws.{entry-small, dotted_start, dotted_small, dotted_turn}
use Rattle.prover.proofs.project.project_row.Goals as goal

pub loop-y-init : goal.loop-y-init
loop-y-init c = dotted_start _ _

pub add_product-acc-requires : goal.add_product-acc-requires
add_product-acc-requires c =
    let row = c.args.row.now in (
      dotted_small row c.args.witness.now c.requires.2 (rw (of_z-to_z c.loop-y.auto.acc-fits) at c.loop-y.invariant),
      entry-small row c.loop-y.y c.requires.0 c.add_product-arg-1.given,
    )

pub loop-y-preserved : goal.loop-y-preserved
loop-y-preserved c =
    rw (to_z-of_z {w = w64} {z = c.add_product-acc.result} (record { sfits = c.add_product-acc.type_inv }))
    (dotted_turn c.args.row.now c.args.witness.now c.requires.2 (rw (of_z-to_z c.loop-y.auto.acc-fits) at c.loop-y.invariant) c.requires.0
    c.loop-y-test.true
    c.add_product-arg-1.given c.add_product-arg-in-loop-y-1.given c.add_product-acc.ensures)
