-- Message 2's loops: the dot product of a projection row and the witness in a 64-bit number, and the numbers p_j one after the other.
--     Dotted         the sum of the first y summands, as the accumulator holds it
--     Projecting     the first j numbers of p are written, and the next row begins at place `at`
use Rattle.std.specs.Prelude.{List, ℕ, get_or, ℤ, pos, ◌*ℤ◌}
use Rattle.algebra.specs.Integers.{ℤ-ring}
use Rattle.algebra.specs.Sum.{sum}

unfoldable pub dot : List ℤ → List ℤ → ℕ → ℤ
dot row s y = sum ℤ-ring y (λ j. get_or row j (pos 0) *ℤ get_or s j (pos 0))
