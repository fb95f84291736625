-- `ring_cases::tests::two_norms` meets its contract. Assumes nothing.
use mathlib.Core.Path.{ap, ◌∙◌}
use native.Mathlib.Omega.{arith}
use mir.Syntax.{w64}
use mir.Facts.{to_z-of_z}
use Rattle.integers.specs.Laws.Bridge.{P}
use Rattle.ring_cases.specs.Results.{two_norms_at}
use Rattle.cases.specs.Laws.NumberLaws.{size-bound}
use Rattle.ring_cases.proofs.tests.two_norms.Goals as goal

pub overflow_add-n : goal.overflow_add-n
overflow_add-n c = omega (arith, c.size-n.ensures, size-bound 64 c.args.xs.now 2)

pub returns : goal.returns
unfolding two_norms_at
returns c =
    let bound-is = c.natural-bound.ensures ∙ ap P (to_z-of_z {w = w64} (record { sfits = c.wide_at.type_inv }) ∙ c.wide_at.ensures) in
    rw (
      ← bound-is,
      ← c.size-n.ensures,
      ← c.size-m.ensures,
      ← c.part.ensures,
      ← c.compare-margin.ensures,
      ← c.part-2.ensures,
      ← c.lessen.ensures,
    )
    c.is_some.ensures
