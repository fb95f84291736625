-- The sizes of a case, brought into their ranges: where one is missing or too small it counts as the least.
use Rattle.std.specs.Prelude.{List, ℕ, max, ℤ}
use Rattle.cases.specs.Numbers.{size_at}

-- the degree, which follows the operation
unfoldable pub degree_at : List ℤ → ℕ
degree_at xs = max 1 (size_at 64 xs 1)

unfoldable pub base_at : List ℤ → ℕ → ℕ
base_at xs k = max 2 (size_at 65536 xs k)

-- a count of digits
unfoldable pub count_at : List ℤ → ℕ → ℕ
count_at xs k = max 1 (size_at 8 xs k)
