-- `residues::digits::fold_digit` meets its contract: the product with the base and the sum fit 64 bits.
use mathlib.Core.Path.{◌∙◌}
use mir.Syntax.{w32}
use mir.Facts.{to_z-of_z}
use Rattle.residues.proofs.Laws.Words.{wide}
use Rattle.residues.proofs.Laws.DigitSteps.{base-held, base-product-fits, horner-fits}
use Rattle.residues.proofs.digits.fold_digit.Goals as goal

pub overflow_add-acc : goal.overflow_add-acc
overflow_add-acc c =
    let product = base-product-fits c.requires c.ranges.acc in
    rw (wide c.ranges.acc, base-held c.requires, wide c.ranges.x, to_z-of_z product) (horner-fits c.requires c.ranges.acc c.ranges.x)

pub returns : goal.returns
returns c =
    let base = c.requires in
    let acc = c.ranges.acc in
    let x = c.ranges.x in
    to_z-of_z {w = w32} (record { sfits = c.centre.type_inv })
    ∙ (rw (wide acc, base-held base, wide x, to_z-of_z (base-product-fits base acc), to_z-of_z (horner-fits base acc x)) at c.centre.ensures)
