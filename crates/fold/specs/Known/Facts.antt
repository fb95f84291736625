-- What the tests of rows 1 and 2 (SPECIFICATION 7) leave known of d, n and r.
use Rattle.std.specs.Prelude.{ℕ, ◌<◌, ◌≤◌}
use Rattle.ring.specs.Element.{Degree}
use Rattle.fold.specs.Limits.{most_parts, most_rank}

pub record Shaped (d n r : ℕ) : Type 0 where
  pub degree : Degree d
  pub rank-positive : 0 < n
  pub rank-small : n ≤ most_rank
  pub parts-positive : 0 < r
  pub parts-small : r ≤ most_parts
