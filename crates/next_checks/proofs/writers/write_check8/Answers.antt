-- `next_checks::writers::write_check8` meets its contract.
use mathlib.Core.Path.{refl, sym, ◌∙◌}
use native.Mathlib.Omega.{arith}
use Rattle.next_checks.specs.Checks as spec
use Rattle.next_checks.specs.Laws.CutLaws.{g-below, h-below, g_asked, h_asked}
use Rattle.next_constraints.specs.Laws.BlockLaws.{numbers-zeros, length-garbage}
use Rattle.next_checks.specs.Laws.Forming.{cleared_pieces, replaced, piece_sizes, cleared, put-g, put-h, formed-no-a}
use Rattle.next_checks.proofs.writers.write_check8.Goals as goal

pub overflow_add-at : goal.overflow_add-at
overflow_add-at c = omega (arith, g-below c.args.sizes c.args.cut c.requires.verify_sized c.requires.cut_facts c.args.at c.requires.d_in_bounds_2)

pub write_garbage-requires : goal.write_garbage-requires
write_garbage-requires c =
    let a = c.args in let all = g_asked a.sizes a.cut c.requires.verify_sized c.requires.cut_facts a.at (rw c.write_zeros.auto.out c.requires.d_in_bounds_2) c.requires.d_in_bounds.0 in record { degree = all.0; base = all.1.0; r_le_most_parts = all.1.1.0; d_in_bounds = all.1.1.1 }

pub overflow_add-at-2 : goal.overflow_add-at-2
overflow_add-at-2 c = omega (arith, h-below c.args.sizes c.args.cut c.requires.verify_sized c.requires.cut_facts c.args.at c.requires.d_in_bounds_2)

pub write_garbage-requires-2 : goal.write_garbage-requires-2
write_garbage-requires-2 c =
    let a = c.args in let all = h_asked a.sizes a.cut c.requires.verify_sized c.requires.cut_facts a.at (rw (c.write_garbage.auto.out ∙ c.write_zeros.auto.out) c.requires.d_in_bounds_2) c.requires.d_in_bounds.1 in record { degree = all.0; base = all.1.0; r_le_most_parts = all.1.1.0; d_in_bounds = all.1.1.1 }

pub finish-requires : goal.finish-requires
finish-requires c =
    let kept = c.write_garbage-2.auto.out ∙ c.write_garbage.auto.out ∙ c.write_zeros.auto.out in record { verify_sized = c.requires.verify_sized; cut_facts = c.requires.cut_facts; d_in_bounds = rw kept c.requires.d_in_bounds_2 }

pub returns : goal.returns
unfolding cleared_pieces replaced piece_sizes
returns c =
    let a = c.args in
    let d = a.sizes.shape.d in
    let cut = c.requires.cut_facts in
    let x = spec.check8 a.sizes a.cut.tz a.aggregate_a.now a.diagonal.now _ in
    let zeros = cleared a.sizes a.cut cut a.out.now a.at c.requires.d_in_bounds_2 c.write_zeros.ensures in
    let g-table = spec.on_g a.sizes a.cut.tz a.aggregate_a.now in
    let h-table = spec.on_h a.sizes a.cut.tz a.diagonal.now in
    let with-g = put-g a.sizes a.cut cut zeros g-table (length-garbage d _ _ _ _) c.write_garbage.ensures in
    let with-h = put-h a.sizes a.cut cut with-g h-table (length-garbage d _ _ _ _) c.write_garbage-2.ensures in
    formed-no-a cut with-h (spec.no_z a.sizes a.cut.tz) (spec.no_t a.sizes a.cut.tz) g-table h-table
    (sym (numbers-zeros d _)) (sym (numbers-zeros d _)) refl refl x c.requires.verify_sized.shaped.degree refl refl refl c.requires.coefficients_value c.finish.ensures
