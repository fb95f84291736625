-- The checksum of a list: x_1 + 2·x_2 + 3·x_3 + .., as a remainder modulo 2^31 - 1.
use Rattle.std.specs.Prelude.{List, ℕ, zero, suc, ℤ, pos, ◌+ℤ◌, ◌*ℤ◌, length, get_or}
use Rattle.integers.specs.Remainder.{emod}

-- its first n summands
unfoldable pub weighted : ℕ → List ℤ → ℤ
weighted zero xs = pos 0
weighted (suc n) xs = weighted n xs +ℤ pos (suc n) *ℤ get_or xs n (pos 0)

unfoldable pub checksum : List ℤ → ℕ
checksum xs = emod (weighted (length xs) xs) 2147483647
