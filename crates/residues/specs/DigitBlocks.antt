-- Splitting numbers into digits in place, as loops do it: the numbers stand in the last of t parts of w places.
--     Peeled        one low digit taken from each of n numbers and written to an earlier part
--     Splitting     k low digits taken from each number
use Rattle.std.specs.Prelude.{◌≡◌, List, ℕ, ◌+◌, ◌≤◌, ◌<◌, ℤ, pos, length, get_or}
use Rattle.residues.specs.Digits.{low, rest}

pub record Peeled (b low-at rest_at n : ℕ) (old new : List ℤ) : Type 0 where
  pub same : length new ≡ length old
  pub lows : (i : ℕ) → i < n → get_or new (low-at + i) (pos 0) ≡ low b (get_or old (rest_at + i) (pos 0))
  pub left : (i : ℕ) → i < n → get_or new (rest_at + i) (pos 0) ≡ rest b (get_or old (rest_at + i) (pos 0))
  pub before : (p : ℕ) → p < low-at → get_or new p (pos 0) ≡ get_or old p (pos 0)
  pub after : (p : ℕ) → rest_at + n ≤ p → get_or new p (pos 0) ≡ get_or old p (pos 0)
