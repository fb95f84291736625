-- `refusals::lengths::garbage_lengths` meets its contract: the other lists of message 4. Assumes nothing.
use mathlib.Core.Path.{refl}
use native.Mathlib.Omega.{arith}
use Rattle.limits.specs.Laws.SizeLaws.{garbage-within}
use Rattle.limits.specs.Laws.RowLaws.{end, ◌&◌}
use Rattle.limits.specs.Laws.StageLaws.{joined-tests}
use Rattle.refusals.proofs.lengths.garbage_lengths.Goals as goal

pub matrix_fits-requires : goal.matrix_fits-requires
matrix_fits-requires c =
    let l = c.requires in
    (omega arith, garbage-within _ _ c.garbage_size-elements.ensures l.shaped.parts-small l.t₁-most, omega arith)

pub list_fits-requires : goal.list_fits-requires
list_fits-requires c =
    let l = c.requires in
    (garbage-within _ _ c.garbage_size-elements.ensures l.shaped.parts-small l.t₁-most, omega arith)

pub returns : goal.returns
returns c =
    let e0 = rw c.garbage_size-elements.ensures at c.matrix_fits.ensures in
    let e2 = rw c.garbage_size-elements.ensures at c.list_fits.ensures in
    joined-tests (e0 & c.matrix_fits-2.ensures & e2 & c.list_fits-2.ensures & end) refl
