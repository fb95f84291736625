-- `residues::modulus::add` meets its contract: the sum of two 32-bit numbers fits 64 bits.
use Rattle.std.proofs.Common.{◌∙◌}
use mir.Syntax.{w32}
use mir.Facts.{to_z-of_z}
use Rattle.residues.proofs.Laws.Words.{wide}
use Rattle.residues.proofs.Laws.Centring.{sum_fits}
use Rattle.residues.proofs.modulus.add.Goals as goal

pub returns : goal.returns
returns c =
    let x = c.ranges.x in
    let y = c.ranges.y in
    to_z-of_z {w = w32} (record { sfits = c.centre_small.type_inv }) ∙ (rw (wide x, wide y, to_z-of_z (sum_fits x y)) at c.centre_small.ensures)
