-- `next_checks::writers::write_check5` meets its contract.
use mathlib.Core.Path.{refl, sym, ◌∙◌}
use Prim.Native.Nat.{◌*◌, ◌≤◌}
use native.Mathlib.Omega.{arith}
use lib.ListN.{length}
use Rattle.ring.specs.Laws.ElementPlaces.{row_fits, row_below}
use Rattle.fold.specs.Sizes.{t_size}
use Rattle.fold.specs.Laws.SizeBounds.{product-bound}
use Rattle.next_checks.specs.Checks as spec
use Rattle.next_checks.specs.Laws.CutLaws.{t_block, block-fits, z-below, t-below, z_asked}
use Rattle.next_constraints.specs.Laws.BlockLaws.{numbers-zeros, length-z, length-t}
use Rattle.next_checks.specs.Laws.Forming.{cleared_pieces, replaced, piece_sizes, cleared, put-z, put-t, formed-no-a}
use Rattle.next_checks.proofs.writers.write_check5.Goals as goal

pub overflow_mul-k : goal.overflow_mul-k
overflow_mul-k c =
    let a = c.args in
    let all : a.sizes.kappa * a.sizes.shape.n * a.sizes.shape.d ≤ length a.a_matrix.now = omega (arith, c.requires.a_matrix_len.0) in
    omega (arith, row_below a.sizes.shape.d a.sizes.shape.n c.requires.verify_sized.shaped.degree.positive c.requires.k_lt_kappa.0 all)

pub overflow_add-at : goal.overflow_add-at
overflow_add-at c = omega (arith, z-below c.args.sizes c.args.cut c.requires.verify_sized c.requires.cut_facts c.args.at c.requires.k_lt_kappa.1)

pub write_z-requires : goal.write_z-requires
write_z-requires c =
    let a = c.args in
    let all : a.sizes.kappa * a.sizes.shape.n * a.sizes.shape.d ≤ length a.a_matrix.now = omega (arith, c.requires.a_matrix_len.0) in let all = z_asked a.sizes a.cut c.requires.verify_sized c.requires.cut_facts a.at (rw c.write_zeros.auto.out c.requires.k_lt_kappa.1) _ (row_fits a.sizes.shape.d a.sizes.shape.n c.requires.k_lt_kappa.0 all) in record { degree = all.0; base = all.1.0; d_in_bounds = all.1.1 }

pub overflow_add-at-2 : goal.overflow_add-at-2
overflow_add-at-2 c = omega (arith, t-below c.args.sizes c.args.cut c.requires.verify_sized c.requires.cut_facts c.args.at c.requires.k_lt_kappa.1)

pub write_parts-requires : goal.write_parts-requires
unfolding t_size
write_parts-requires c =
    let a = c.args in
    let limits = c.requires.verify_sized in
    let kept = c.write_z.auto.out ∙ c.write_zeros.auto.out in record {
      degree = limits.shaped.degree;
      base = limits.base₁;
      rows_bound = product-bound a.sizes.t1 a.sizes.kappa 8 8 limits.t₁-most limits.κ-small;
      d_in_bounds = (
        c.requires.a_matrix_len.1,
        block-fits a.sizes.shape.d a.at a.cut.size a.cut.t (rw kept c.requires.k_lt_kappa.1) _ (t_block a.sizes a.cut c.requires.cut_facts),
      );
    }

pub finish-requires : goal.finish-requires
finish-requires c =
    let kept = c.write_parts.auto.out ∙ c.write_z.auto.out ∙ c.write_zeros.auto.out in record { verify_sized = c.requires.verify_sized; cut_facts = c.requires.cut_facts; d_in_bounds = rw kept c.requires.k_lt_kappa.1 }

pub returns : goal.returns
unfolding cleared_pieces replaced piece_sizes
returns c =
    let a = c.args in
    let d = a.sizes.shape.d in
    let cut = c.requires.cut_facts in
    let x = spec.check5 a.sizes a.cut.tz a.a_matrix.now a.minus.now a.k in
    let zeros = cleared a.sizes a.cut cut a.out.now a.at c.requires.k_lt_kappa.1 c.write_zeros.ensures in
    let z-table = spec.on_z a.sizes a.cut.tz a.a_matrix.now (a.k * a.sizes.shape.n) in
    let t-table = spec.on_t a.sizes a.cut.tz a.minus.now a.k in
    let with-z = put-z a.sizes a.cut cut zeros z-table (length-z d _ _ _ _) c.write_z.ensures in
    let with-t = put-t a.sizes a.cut cut with-z t-table (length-t d _ _ _ _) c.write_parts.ensures in
    formed-no-a cut with-t z-table t-table (spec.no_g a.sizes a.cut.tz) (spec.no_h a.sizes a.cut.tz)
    refl refl (sym (numbers-zeros d _)) (sym (numbers-zeros d _)) x c.requires.verify_sized.shaped.degree refl refl refl (c.additive_identity.ensures d) c.finish.ensures
