-- `aggregation::garbage::write_h` meets its contract: the products <φ_i, s_j>, then the h_ij, then their digits.
use Rattle.std.proofs.Common.{arith}
use Rattle.aggregation.specs.Laws.ValueLaws.{pairs-room}
use Rattle.aggregation.specs.Laws.GarbageLaws.{square-room, digits-length, h-written}
use Rattle.aggregation.proofs.garbage.write_h.Goals as goal

pub write_half_sums-requires-clause-d_in_bounds : goal.write_half_sums-requires-clause-d_in_bounds
write_half_sums-requires-clause-d_in_bounds c =
    let shaped = c.requires.aggregated.wholes.shaped in
    (omega (arith, square-room shaped, c.write_products.auto.out), pairs-room shaped)

pub write_digits-requires-clause-t_nonzero : goal.write_digits-requires-clause-t_nonzero
write_digits-requires-clause-t_nonzero c =
    let z = c.args.sizes in
    let count = c.pair_count.ensures in
    let room = pairs-room c.requires.aggregated.wholes.shaped in (
      omega (arith, c.requires.limits.t₁-least),
      c.requires.limits.t₁-most,
      rw count (omega (arith, room, c.write_half_sums.auto.out)),
      digits-length z.shape.d z.shape.r z.t1 count c.requires.hs_length,
    )

pub returns : goal.returns
returns c =
    let z = c.args.sizes in
    h-written z.shape.d z.shape.n z.shape.r z.b1 z.t1 _ _ _ _
    c.write_products.ensures (pairs-room c.requires.aggregated.wholes.shaped)
    c.write_half_sums.ensures c.pair_count.ensures c.write_digits.ensures
