-- `judge::lengths::d_matrix_length` meets its contract. Assumes nothing.
use mathlib.Core.Path.{refl, ◌∙◌}
use native.Mathlib.Omega.{arith}
use Rattle.limits.specs.Laws.SizeLaws.{garbage-within}
use Rattle.judge.proofs.lengths.d_matrix_length.Goals as goal

pub flat_length-requires : goal.flat_length-requires
flat_length-requires c =
    let b = c.requires in
    (omega arith, garbage-within _ _ c.garbage_size-columns.ensures b.shaped.parts-small b.t₁-most, omega arith)

pub returns : goal.returns
returns c = c.flat_length.ensures ∙ rw c.garbage_size-columns.ensures refl
