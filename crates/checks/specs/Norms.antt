-- The squared length of a list as that of its three parts, where it is cut at two places.
use Rattle.std.specs.Prelude.{List, ℕ, ◌+◌, ◌-◌, length, take, drop, ℤ}
use Rattle.integers.specs.Sums.{norm_sq}

unfoldable pub three_lengths : (first second : ℕ) → List ℤ → ℕ
three_lengths first second xs =
    norm_sq (take first xs) + norm_sq (take (second - first) (drop first xs)) + norm_sq (take (length xs - second) (drop second xs))
