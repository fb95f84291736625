-- `next_checks::writers::write_check6` meets its contract.
use mathlib.Core.Path.{refl, sym, ap}
use Prim.Native.Nat.{◌+◌, ◌*◌, ◌≤◌}
use native.Mathlib.Omega.{arith}
use lib.ListN.{length}
use Rattle.fold.specs.NextInstance.{squares}
use Rattle.next_checks.specs.Checks as spec
use Rattle.next_checks.specs.Laws.CutLaws.{z-parts, parts-few, g-below, g_asked}
use Rattle.next_constraints.specs.Laws.BlockLaws.{numbers-zeros, length-garbage}
use Rattle.next_checks.specs.Laws.Forming.{cleared_pieces, replaced, piece_sizes, cleared, put_a, put-g, same_size, lent-over, lent_length, a-room, length-a, formed}
use Rattle.next_checks.proofs.writers.write_check6.Goals as goal

pub overflow_mul-end : goal.overflow_mul-end
overflow_mul-end c = omega (arith, a-room c.args.sizes c.args.cut c.requires.cut_facts c.args.at c.requires.d_in_bounds_2)

pub overflow_add-end : goal.overflow_add-end
overflow_add-end c = omega (arith, a-room c.args.sizes c.args.cut c.requires.cut_facts c.args.at c.requires.d_in_bounds_2)

pub slice_bounds-write_squares-end : goal.slice_bounds-write_squares-end
slice_bounds-write_squares-end c = omega (arith, a-room c.args.sizes c.args.cut c.requires.cut_facts c.args.at c.requires.d_in_bounds_2, c.write_zeros.auto.out)

pub write_squares-requires : goal.write_squares-requires
write_squares-requires c =
    let a = c.args in
    let cut = c.requires.cut_facts in
    let d = a.sizes.shape.d in
    let out = c.write_zeros.new.out in
    let room : a.at * d + a.cut.pairs * d ≤ length out = omega (arith, a-room a.sizes a.cut cut a.at c.requires.d_in_bounds_2, c.write_zeros.auto.out) in record { degree = c.requires.verify_sized.shaped.degree; base = c.requires.verify_sized.base; nu_nonzero = (cut.ν-positive, z-parts a.sizes a.cut cut, parts-few a.sizes a.cut cut); d_in_bounds = omega (arith, lent_length out (a.at * d) (a.cut.pairs * d) room, ap (λ k. k * d) cut.pairs_is) }

pub overflow_add-at : goal.overflow_add-at
overflow_add-at c = omega (arith, g-below c.args.sizes c.args.cut c.requires.verify_sized c.requires.cut_facts c.args.at c.requires.d_in_bounds_2)

pub write_garbage-requires : goal.write_garbage-requires
write_garbage-requires c =
    let a = c.args in
    let d = a.sizes.shape.d in
    let cut = c.requires.cut_facts in
    let out = c.write_zeros.new.out in
    let room : a.at * d + a.cut.pairs * d ≤ length out = omega (arith, a-room a.sizes a.cut cut a.at c.requires.d_in_bounds_2, c.write_zeros.auto.out) in
    let long = length-a a.sizes a.cut cut (squares d a.cut.tz a.cut.nu a.sizes.b) in
    let zeros = cleared a.sizes a.cut cut a.out.now a.at c.requires.d_in_bounds_2 c.write_zeros.ensures in
    let with-a = put_a a.sizes a.cut cut zeros _ long (lent-over out (a.at * d) (a.cut.pairs * d) _ room long c.write_squares.ensures) in let all = g_asked a.sizes a.cut c.requires.verify_sized c.requires.cut_facts a.at (rw (same_size with-a) c.requires.d_in_bounds_2) c.requires.d_in_bounds in record { degree = all.0; base = all.1.0; r_le_most_parts = all.1.1.0; d_in_bounds = all.1.1.1 }

pub returns : goal.returns
unfolding cleared_pieces replaced piece_sizes
returns c =
    let a = c.args in
    let d = a.sizes.shape.d in
    let cut = c.requires.cut_facts in
    let x = spec.check6 a.sizes a.cut.tz a.cut.nu a.products.now in
    let out = c.write_zeros.new.out in
    let room : a.at * d + a.cut.pairs * d ≤ length out = omega (arith, a-room a.sizes a.cut cut a.at c.requires.d_in_bounds_2, c.write_zeros.auto.out) in
    let long = length-a a.sizes a.cut cut (squares d a.cut.tz a.cut.nu a.sizes.b) in
    let zeros = cleared a.sizes a.cut cut a.out.now a.at c.requires.d_in_bounds_2 c.write_zeros.ensures in
    let with-a = put_a a.sizes a.cut cut zeros _ long (lent-over out (a.at * d) (a.cut.pairs * d) _ room long c.write_squares.ensures) in
    let g-table = spec.on_g a.sizes a.cut.tz a.products.now in
    let with-g = put-g a.sizes a.cut cut with-a g-table (length-garbage d _ _ _ _) c.write_garbage.ensures in
    formed cut with-g (spec.no_z a.sizes a.cut.tz) (spec.no_t a.sizes a.cut.tz) g-table (spec.no_h a.sizes a.cut.tz)
    (sym (numbers-zeros d _)) (sym (numbers-zeros d _)) refl (sym (numbers-zeros d _)) x c.requires.verify_sized.shaped.degree refl refl (c.additive_identity.ensures d) c.finish.ensures
