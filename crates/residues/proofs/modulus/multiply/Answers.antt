-- `residues::modulus::multiply` meets its contract: the product of two 32-bit numbers fits 64 bits.
use Rattle.std.proofs.Common.{◌∙◌}
use mir.Syntax.{w32}
use mir.Facts.{to_z-of_z}
use Rattle.residues.proofs.Laws.Words.{wide}
use Rattle.residues.proofs.Laws.Centring.{product-fits}
use Rattle.residues.proofs.modulus.multiply.Goals as goal

pub returns : goal.returns
returns c =
    let x = c.ranges.x in
    let y = c.ranges.y in
    to_z-of_z {w = w32} (record { sfits = c.centre.type_inv }) ∙ (rw (wide x, wide y, to_z-of_z (product-fits x y)) at c.centre.ensures)
