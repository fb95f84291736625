-- `next_checks::writers::write_check3` meets its contract.
use mathlib.Core.Path.{refl, sym, ap, ◌∙◌}
use mathlib.Core.List.{List}
use Prim.Native.Nat.{ℕ, ◌*◌, ◌≤◌}
use native.Mathlib.Omega.{arith}
use lib.ListN.{length}
use Rattle.integers.specs.Over.{over}
use Rattle.ring.specs.Element.{R}
use Rattle.integers.specs.Laws.ListLaws.{length-tab}
use Rattle.ring.specs.Laws.ElementPlaces.{row_fits, element-within}
use Rattle.fold.specs.Sizes.{t_size, garbage_size}
use Rattle.next_constraints.specs.Blocks.{numbers}
use Rattle.next_checks.specs.Checks as spec
use Rattle.next_checks.specs.Laws.CutLaws.{t_block, g-block, t-columns, g-columns, block-fits, t-below, g-below}
use Rattle.next_constraints.specs.Laws.BlockLaws.{numbers-zeros}
use Rattle.next_checks.specs.Laws.Forming.{cleared_pieces, replaced, piece_sizes, cleared, put-t, put-g, formed-no-a}
use Rattle.next_checks.proofs.writers.write_check3.Goals as goal

pub overflow_add-at : goal.overflow_add-at
overflow_add-at c =
    omega (arith, t-below c.args.sizes c.args.cut c.requires.verify_sized c.requires.cut_facts c.args.at c.requires.d_in_bounds, c.well_formed.1.1.1.1.1.1.0)

pub write_matrix_row-requires : goal.write_matrix_row-requires
write_matrix_row-requires c =
    let a = c.args in
    let m = t_size a.sizes.shape.r a.sizes.kappa a.sizes.t1 in
    let all : a.sizes.kappa1 * m * a.sizes.shape.d ≤ length a.b_matrix.now = omega (arith, c.requires.b_matrix_len) in record {
      degree = c.requires.verify_sized.shaped.degree;
      d_in_bounds = rw (t-columns a.sizes a.cut c.requires.cut_facts) (
        row_fits a.sizes.shape.d m c.requires.u1_len.1 all,
        block-fits a.sizes.shape.d a.at a.cut.size a.cut.t (rw c.write_zeros.auto.out c.requires.d_in_bounds) m (t_block a.sizes a.cut c.requires.cut_facts),
      );
    }

pub overflow_add-at-2 : goal.overflow_add-at-2
overflow_add-at-2 c =
    omega (arith, g-below c.args.sizes c.args.cut c.requires.verify_sized c.requires.cut_facts c.args.at c.requires.d_in_bounds, c.well_formed.1.1.1.1.1.1.0)

pub write_matrix_row-requires-2 : goal.write_matrix_row-requires-2
write_matrix_row-requires-2 c =
    let a = c.args in
    let m = garbage_size a.sizes.shape.r a.sizes.t2 in
    let kept = c.write_matrix_row.auto.out ∙ c.write_zeros.auto.out in
    let all : a.sizes.kappa1 * m * a.sizes.shape.d ≤ length a.c_matrix.now = omega (arith, c.requires.c_matrix_len) in record {
      degree = c.requires.verify_sized.shaped.degree;
      d_in_bounds = rw (g-columns a.sizes a.cut c.requires.cut_facts) (
        row_fits a.sizes.shape.d m c.requires.u1_len.1 all,
        block-fits a.sizes.shape.d a.at a.cut.size a.cut.g (rw kept c.requires.d_in_bounds) m (g-block a.sizes a.cut c.requires.cut_facts),
      );
    }

pub from_slice-requires : goal.from_slice-requires
from_slice-requires c =
    let a = c.args in
    let all : a.sizes.kappa1 * a.sizes.shape.d ≤ length a.u1.now = omega (arith, c.requires.u1_len.0) in record { degree = c.requires.verify_sized.shaped.degree; d_in_bounds = element-within a.sizes.shape.d {k = a.k} c.requires.u1_len.1 all }

pub finish-requires : goal.finish-requires
finish-requires c =
    let kept = c.write_matrix_row-2.auto.out ∙ c.write_matrix_row.auto.out ∙ c.write_zeros.auto.out in record { verify_sized = c.requires.verify_sized; cut_facts = c.requires.cut_facts; d_in_bounds = rw kept c.requires.d_in_bounds }

pub returns : goal.returns
unfolding cleared_pieces replaced piece_sizes
returns c =
    let a = c.args in
    let d = a.sizes.shape.d in
    let cut = c.requires.cut_facts in
    let x = spec.check3 a.sizes a.cut.tz a.b_matrix.now a.c_matrix.now a.u1.now a.k in
    let row_b : ℕ → List (R d).Carrier = λ m. spec.row a.sizes a.cut.tz m a.b_matrix.now a.k in
    let row_c : ℕ → List (R d).Carrier = λ m. spec.row a.sizes a.cut.tz m a.c_matrix.now a.k in
    let zeros = cleared a.sizes a.cut cut a.out.now a.at c.requires.d_in_bounds c.write_zeros.ensures in
    let with-t = put-t a.sizes a.cut cut zeros (row_b (t_size a.sizes.shape.r a.sizes.kappa a.sizes.t1)) (length-tab _ _)
    (c.write_matrix_row.ensures ∙ ap (over _ _) (ap (λ m. numbers d (row_b m)) (t-columns a.sizes a.cut cut))) in
    let with-g = put-g a.sizes a.cut cut with-t (row_c (garbage_size a.sizes.shape.r a.sizes.t2)) (length-tab _ _)
    (c.write_matrix_row-2.ensures ∙ ap (over _ _) (ap (λ m. numbers d (row_c m)) (g-columns a.sizes a.cut cut))) in
    formed-no-a cut with-g (spec.no_z a.sizes a.cut.tz) (row_b (t_size a.sizes.shape.r a.sizes.kappa a.sizes.t1)) (row_c (garbage_size a.sizes.shape.r a.sizes.t2)) (spec.no_h a.sizes a.cut.tz)
    (sym (numbers-zeros d _)) refl refl (sym (numbers-zeros d _)) x c.requires.verify_sized.shaped.degree refl refl refl c.from_slice.ensures c.finish.ensures
