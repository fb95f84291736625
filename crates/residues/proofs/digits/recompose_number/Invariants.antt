use mathlib.Core.Path.{◌≡◌}
use mathlib.Core.List.{List}
use Prim.Native.Nat.{ℕ, ◌+◌, ◌*◌}
use lib.ListN.{get_or}
use lib.IntN.{ℤ, pos}
use Rattle.residues.specs.Modulus.{centred}
use Rattle.residues.proofs.Laws.DigitSums.{tail}
use Rattle.residues.proofs.digits.recompose_number.Given as goal

abbrev pub digits_of : List ℤ → ℕ → ℕ → ℕ → ℤ
digits_of digits at width e = get_or digits (at + e * width) (pos 0)

abbrev pub invariant-loop-left : goal.invariant-loop-left
invariant-loop-left l = l.acc ≡ centred (tail l.base l.count (digits_of l.digits l.at l.width) l.left)
