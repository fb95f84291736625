-- `ring_cases::tests::norm` meets its contract. Assumes nothing.
use mathlib.Core.Path.{ap, ◌∙◌}
use mir.Syntax.{w64}
use mir.Facts.{to_z-of_z}
use Rattle.integers.specs.Laws.Bridge.{P}
use Rattle.ring_cases.specs.Results.{norm_at}
use Rattle.ring_cases.proofs.tests.norm.Goals as goal

pub returns : goal.returns
unfolding norm_at
returns c =
    let bound-is = c.natural-bound.ensures ∙ ap P (to_z-of_z {w = w64} (record { sfits = c.wide_at.type_inv }) ∙ c.wide_at.ensures) in
    rw (← bound-is, ← c.size-n.ensures, ← c.part.ensures, ← c.compare.ensures) c.is_some.ensures
