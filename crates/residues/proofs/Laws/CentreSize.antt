-- The number of `low` where z does not lie halfway is at most half of b.
use Rattle.std.specs.Prelude.{ℕ, ◌*◌, ◌≤◌, ◌<◌, ℤ, nat_abs}
use native.Mathlib.Omega.{arith}
use Rattle.integers.specs.Laws.Bridge.{pn_min, nat_abs_pn}
use Rattle.integers.specs.Remainder.{centre}
use Rattle.integers.specs.Laws.CentreLaws.{centre_range}

module _ (b : ℕ) (b>1 : 2 ≤ b) (z : ℤ) where
  above : 0 < b
  above = omega arith

  pub centre-narrow : nat_abs (centre b z) * 2 ≤ b
  centre-narrow = omega (arith, (centre_range b above z).low, (centre_range b above z).high, nat_abs_pn (centre b z), pn_min (centre b z))
