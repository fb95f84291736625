-- `next_checks::writers::write_check7` meets its contract.
use mathlib.Core.Path.{refl, sym, ◌∙◌}
use native.Mathlib.Omega.{arith}
use Rattle.next_checks.specs.Checks as spec
use Rattle.next_checks.specs.Laws.CutLaws.{z-below, h-below, z_asked, h_asked}
use Rattle.next_constraints.specs.Laws.BlockLaws.{numbers-zeros, length-z, length-garbage}
use Rattle.next_checks.specs.Laws.Forming.{cleared_pieces, replaced, piece_sizes, cleared, put-z, put-h, formed-no-a}
use Rattle.next_checks.proofs.writers.write_check7.Goals as goal

pub overflow_add-at : goal.overflow_add-at
overflow_add-at c = omega (arith, z-below c.args.sizes c.args.cut c.requires.verify_sized c.requires.cut_facts c.args.at c.requires.d_in_bounds_2)

pub write_z-requires : goal.write_z-requires
write_z-requires c =
    let a = c.args in let all = z_asked a.sizes a.cut c.requires.verify_sized c.requires.cut_facts a.at (rw c.write_zeros.auto.out c.requires.d_in_bounds_2) 0 (omega (arith, c.requires.d_in_bounds.0)) in record { degree = all.0; base = all.1.0; d_in_bounds = all.1.1 }

pub overflow_add-at-2 : goal.overflow_add-at-2
overflow_add-at-2 c = omega (arith, h-below c.args.sizes c.args.cut c.requires.verify_sized c.requires.cut_facts c.args.at c.requires.d_in_bounds_2)

pub write_garbage-requires : goal.write_garbage-requires
write_garbage-requires c =
    let a = c.args in let all = h_asked a.sizes a.cut c.requires.verify_sized c.requires.cut_facts a.at (rw (c.write_z.auto.out ∙ c.write_zeros.auto.out) c.requires.d_in_bounds_2) c.requires.d_in_bounds.1 in record { degree = all.0; base = all.1.0; r_le_most_parts = all.1.1.0; d_in_bounds = all.1.1.1 }

pub finish-requires : goal.finish-requires
finish-requires c =
    let kept = c.write_garbage.auto.out ∙ c.write_z.auto.out ∙ c.write_zeros.auto.out in record { verify_sized = c.requires.verify_sized; cut_facts = c.requires.cut_facts; d_in_bounds = rw kept c.requires.d_in_bounds_2 }

pub returns : goal.returns
unfolding cleared_pieces replaced piece_sizes
returns c =
    let a = c.args in
    let d = a.sizes.shape.d in
    let cut = c.requires.cut_facts in
    let x = spec.check7 a.sizes a.cut.tz a.folded.now a.products.now in
    let zeros = cleared a.sizes a.cut cut a.out.now a.at c.requires.d_in_bounds_2 c.write_zeros.ensures in
    let z-table = spec.on_z a.sizes a.cut.tz a.folded.now 0 in
    let h-table = spec.on_h a.sizes a.cut.tz a.products.now in
    let with-z = put-z a.sizes a.cut cut zeros z-table (length-z d _ _ _ _) c.write_z.ensures in
    let with-h = put-h a.sizes a.cut cut with-z h-table (length-garbage d _ _ _ _) c.write_garbage.ensures in
    formed-no-a cut with-h z-table (spec.no_t a.sizes a.cut.tz) (spec.no_g a.sizes a.cut.tz) h-table
    refl (sym (numbers-zeros d _)) (sym (numbers-zeros d _)) refl x c.requires.verify_sized.shaped.degree refl refl refl (c.additive_identity.ensures d) c.finish.ensures
