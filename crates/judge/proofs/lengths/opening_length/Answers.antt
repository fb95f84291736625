-- `judge::lengths::opening_length` meets its contract. Assumes nothing.
use mathlib.Core.Path.{refl, ◌∙◌}
use native.Mathlib.Omega.{arith}
use Rattle.limits.specs.Laws.SizeLaws.{opening-within}
use Rattle.judge.proofs.lengths.opening_length.Goals as goal

pub list_length-requires : goal.list_length-requires
list_length-requires c =
    let b = c.requires in
    (opening-within _ _ _ _ _ _ c.opening_size-elements.ensures (omega arith) b.shaped.rank-small b.shaped.parts-small b.κ-small b.t₁-most b.t₂-most, omega arith)

pub returns : goal.returns
returns c = c.list_length.ensures ∙ rw c.opening_size-elements.ensures refl
