-- `ring_cases::values::write_value` meets its contract. Assumes nothing.
use mathlib.Core.Path.{◌∙◌}
use mir.Syntax.{w32}
use mir.Facts.{to_z-of_z}
use Rattle.ring_cases.proofs.values.write_value.Goals as goal

pub returns : goal.returns
returns c = rw (← to_z-of_z {w = w32} (record { sfits = c.value_of.type_inv }) ∙ c.value_of.ensures) c.write_one.ensures
