-- `ring_cases::product::write_product` meets its contract. Assumes nothing.
use mathlib.Core.Path.{◌∙◌}
use mir.Syntax.{w32}
use mir.Facts.{to_z-of_z}
use Rattle.ring_cases.specs.Laws.ResultLaws.{product-out}
use Rattle.ring_cases.proofs.product.write_product.Goals as goal

pub returns : goal.returns
returns c =
    let kind = to_z-of_z {w = w32} (record { sfits = c.from.type_inv }) ∙ c.from.ensures in
    let number = to_z-of_z {w = w32} (record { sfits = c.capped.type_inv }) ∙ c.capped.ensures in
    rw (← c.product-answer.ensures)
    (product-out c.product-answer.result c.args.out.now _ _ c.requires (rw (kind, number) at c.put.ensures.1)
    c.put-2.ensures.0 c.put-2.ensures.1)
