-- `refusals::lengths::matrix_lengths` meets its contract: each matrix. Assumes nothing.
use mathlib.Core.Path.{refl}
use native.Mathlib.Omega.{arith}
use Rattle.limits.specs.Laws.SizeLaws.{garbage-within, t_within}
use Rattle.limits.specs.Laws.RowLaws.{end, ◌&◌}
use Rattle.limits.specs.Laws.StageLaws.{joined-tests}
use Rattle.refusals.proofs.lengths.matrix_lengths.Goals as goal

pub matrix_fits-requires-2 : goal.matrix_fits-requires-2
matrix_fits-requires-2 c =
    let l = c.requires in
    (omega arith, t_within _ _ _ c.t_size-t_elements.ensures l.shaped.parts-small l.κ-small l.t₁-most, omega arith)

pub matrix_fits-requires-3 : goal.matrix_fits-requires-3
matrix_fits-requires-3 c =
    let l = c.requires in
    (omega arith, garbage-within _ _ c.garbage_size-g_elements.ensures l.shaped.parts-small l.t₂-most, omega arith)

pub matrix_fits-requires-4 : goal.matrix_fits-requires-4
matrix_fits-requires-4 c =
    let l = c.requires in
    (omega arith, garbage-within _ _ c.garbage_size-h_elements.ensures l.shaped.parts-small l.t₁-most, omega arith)

pub returns : goal.returns
returns c =
    let e1 = rw c.t_size-t_elements.ensures at c.matrix_fits-2.ensures in
    let e2 = rw c.garbage_size-g_elements.ensures at c.matrix_fits-3.ensures in
    let e3 = rw c.garbage_size-h_elements.ensures at c.matrix_fits-4.ensures in
    joined-tests (c.matrix_fits.ensures & e1 & e2 & e3 & end) refl
