-- `refusals::lengths::commit_lengths` meets its contract: each list of message 1. Assumes nothing.
use mathlib.Core.Path.{refl}
use native.Mathlib.Omega.{arith}
use Rattle.limits.specs.Laws.SizeLaws.{garbage-within, t_within}
use Rattle.limits.specs.Laws.RowLaws.{end, ◌&◌}
use Rattle.limits.specs.Laws.StageLaws.{joined-tests}
use Rattle.refusals.proofs.lengths.commit_lengths.Goals as goal

pub matrix_fits-requires-2 : goal.matrix_fits-requires-2
matrix_fits-requires-2 c =
    let l = c.requires in
    (omega arith, t_within _ _ _ c.t_size-t_elements.ensures l.shaped.parts-small l.κ-small l.t₁-most, omega arith)

pub matrix_fits-requires-3 : goal.matrix_fits-requires-3
matrix_fits-requires-3 c =
    let l = c.requires in
    (omega arith, garbage-within _ _ c.garbage_size-g_elements.ensures l.shaped.parts-small l.t₂-most, omega arith)

pub list_fits-requires : goal.list_fits-requires
list_fits-requires c =
    let l = c.requires in
    (t_within _ _ _ c.t_size-t_elements.ensures l.shaped.parts-small l.κ-small l.t₁-most, omega arith)

pub list_fits-requires-2 : goal.list_fits-requires-2
list_fits-requires-2 c =
    let l = c.requires in
    (garbage-within _ _ c.garbage_size-g_elements.ensures l.shaped.parts-small l.t₂-most, omega arith)

pub returns : goal.returns
returns c =
    let e1 = rw c.t_size-t_elements.ensures at c.matrix_fits-2.ensures in
    let e2 = rw c.garbage_size-g_elements.ensures at c.matrix_fits-3.ensures in
    let e4 = rw c.t_size-t_elements.ensures at c.list_fits.ensures in
    let e5 = rw c.garbage_size-g_elements.ensures at c.list_fits-2.ensures in
    joined-tests (c.matrix_fits.ensures & e1 & e2 & c.matrix_fits-4.ensures & e4 & e5 & c.list_fits-3.ensures & end) refl
