-- `judge::lengths::b_matrix_length` meets its contract. Assumes nothing.
use mathlib.Core.Path.{refl, ◌∙◌}
use native.Mathlib.Omega.{arith}
use Rattle.limits.specs.Laws.SizeLaws.{t_within}
use Rattle.judge.proofs.lengths.b_matrix_length.Goals as goal

pub flat_length-requires : goal.flat_length-requires
flat_length-requires c =
    let b = c.requires in
    (omega arith, t_within _ _ _ c.t_size-columns.ensures b.shaped.parts-small b.κ-small b.t₁-most, omega arith)

pub returns : goal.returns
returns c = c.flat_length.ensures ∙ rw c.t_size-columns.ensures refl
