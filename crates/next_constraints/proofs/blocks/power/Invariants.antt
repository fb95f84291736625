use mathlib.Core.Path.{◌≡◌}
use Prim.Native.Nat.{◌^◌}
use lib.IntN.{pos}
use mir.Syntax.{w32}
use mir.Val.{of_z}
use Rattle.residues.specs.Modulus.{centred}
use Rattle.next_constraints.proofs.blocks.power.Given as goal

abbrev pub invariant-loop : goal.invariant-loop
invariant-loop l = of_z w32 l.power ≡ of_z w32 (centred (pos (l.base ^ l.counter)))
