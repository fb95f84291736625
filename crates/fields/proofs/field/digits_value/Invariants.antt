use mathlib.Core.Path.{◌≡◌}
use lib.ListN.{take, drop}
use Rattle.fields.specs.Fields.{value_from}
use Rattle.fields.proofs.field.digits_value.Given as goal

abbrev pub invariant-loop-k : goal.invariant-loop-k
invariant-loop-k l = l.value ≡ value_from 0 (take l.k (drop l.at l.text))
