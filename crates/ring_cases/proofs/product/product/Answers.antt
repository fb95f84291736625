-- `ring_cases::product::product` meets its contract. Assumes nothing.
use mathlib.Core.Path.{ap, ◌∙◌}
use mir.Syntax.{w64}
use mir.Facts.{to_z-of_z}
use Rattle.integers.specs.Laws.Bridge.{P}
use Rattle.ring_cases.specs.Results.{product_at}
use Rattle.ring_cases.proofs.product.product.Goals as goal

pub returns : goal.returns
unfolding product_at
returns c =
    let degree-is = c.natural-d.ensures ∙ ap P (to_z-of_z {w = w64} (record { sfits = c.wide_at.type_inv }) ∙ c.wide_at.ensures) in
    rw (
      ← degree-is,
      ← c.past_numbers.ensures,
      ← c.element.ensures,
      ← c.past_numbers-2.ensures,
      ← c.element-2.ensures,
    )
    c.lizkarg_multiply.ensures
