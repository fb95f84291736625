-- `next_checks::writers::write_check4` meets its contract.
use mathlib.Core.Path.{refl, sym, ap, ◌∙◌}
use mathlib.Core.List.{List}
use Prim.Native.Nat.{ℕ, ◌*◌, ◌≤◌}
use native.Mathlib.Omega.{arith}
use lib.ListN.{length}
use Rattle.integers.specs.Over.{over}
use Rattle.ring.specs.Element.{R}
use Rattle.integers.specs.Laws.ListLaws.{length-tab}
use Rattle.ring.specs.Laws.ElementPlaces.{row_fits, element-within}
use Rattle.fold.specs.Sizes.{garbage_size}
use Rattle.next_constraints.specs.Blocks.{numbers}
use Rattle.next_checks.specs.Checks as spec
use Rattle.next_checks.specs.Laws.CutLaws.{h-block, h-columns, h-end, block-fits, h-below}
use Rattle.next_constraints.specs.Laws.BlockLaws.{numbers-zeros}
use Rattle.next_checks.specs.Laws.Forming.{cleared_pieces, replaced, piece_sizes, cleared, put-h, formed-no-a}
use Rattle.next_checks.proofs.writers.write_check4.Goals as goal

pub overflow_sub-cut : goal.overflow_sub-cut
overflow_sub-cut c = omega (arith, h-end c.args.sizes c.args.cut c.requires.cut_facts)

pub overflow_add-at : goal.overflow_add-at
overflow_add-at c = omega (arith, h-below c.args.sizes c.args.cut c.requires.verify_sized c.requires.cut_facts c.args.at c.requires.d_in_bounds)

pub write_matrix_row-requires : goal.write_matrix_row-requires
write_matrix_row-requires c =
    let a = c.args in
    let m = garbage_size a.sizes.shape.r a.sizes.t1 in
    let all : a.sizes.kappa2 * m * a.sizes.shape.d ≤ length a.d_matrix.now = omega (arith, c.requires.d_matrix_len) in record {
      degree = c.requires.verify_sized.shaped.degree;
      d_in_bounds = rw (h-columns a.sizes a.cut c.requires.cut_facts) (
        row_fits a.sizes.shape.d m c.requires.u2_len.1 all,
        block-fits a.sizes.shape.d a.at a.cut.size a.cut.h (rw c.write_zeros.auto.out c.requires.d_in_bounds) m (h-block a.sizes a.cut c.requires.cut_facts),
      );
    }

pub from_slice-requires : goal.from_slice-requires
from_slice-requires c =
    let a = c.args in
    let all : a.sizes.kappa2 * a.sizes.shape.d ≤ length a.u2.now = omega (arith, c.requires.u2_len.0) in record { degree = c.requires.verify_sized.shaped.degree; d_in_bounds = element-within a.sizes.shape.d {k = a.k} c.requires.u2_len.1 all }

pub returns : goal.returns
unfolding cleared_pieces replaced piece_sizes
returns c =
    let a = c.args in
    let d = a.sizes.shape.d in
    let cut = c.requires.cut_facts in
    let x = spec.check4 a.sizes a.cut.tz a.d_matrix.now a.u2.now a.k in
    let row : ℕ → List (R d).Carrier = λ m. spec.row a.sizes a.cut.tz m a.d_matrix.now a.k in
    let zeros = cleared a.sizes a.cut cut a.out.now a.at c.requires.d_in_bounds c.write_zeros.ensures in
    let with-h = put-h a.sizes a.cut cut zeros (row (garbage_size a.sizes.shape.r a.sizes.t1)) (length-tab _ _)
    (c.write_matrix_row.ensures ∙ ap (over _ _) (ap (λ m. numbers d (row m)) (h-columns a.sizes a.cut cut))) in
    formed-no-a cut with-h (spec.no_z a.sizes a.cut.tz) (spec.no_t a.sizes a.cut.tz) (spec.no_g a.sizes a.cut.tz) (row (garbage_size a.sizes.shape.r a.sizes.t1))
    (sym (numbers-zeros d _)) (sym (numbers-zeros d _)) (sym (numbers-zeros d _)) refl x c.requires.verify_sized.shaped.degree refl refl refl c.from_slice.ensures c.finish.ensures
