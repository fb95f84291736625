-- The digits of z, t, g and h end within an opening whose z has tz digits; counted as row 15 reads them, group by group.
use Rattle.std.specs.Prelude.{ℕ, ◌+◌, ◌*◌, ◌≤◌}
use native.Mathlib.Omega.{arith}
use Rattle.fold.specs.Sizes.{pairs, t_size, garbage_size, rest_size, opening_size}
use Rattle.fold.specs.Opening.{t_place, g_place, h_place}

module _ (d n r tz κ t₁ t₂ : ℕ) where
  pub z-within : 0 * d + 1 * (tz * (n * d)) ≤ opening_size tz n r κ t₁ t₂ * d
  unfolding opening_size
  z-within = omega arith

  pub t_within : t_place tz n * d + r * (t₁ * (κ * d)) ≤ opening_size tz n r κ t₁ t₂ * d
  unfolding opening_size rest_size t_size t_place
  t_within = omega arith

  pub g_within : g_place tz n r κ t₁ * d + pairs r * (t₂ * (1 * d)) ≤ opening_size tz n r κ t₁ t₂ * d
  unfolding opening_size rest_size garbage_size g_place t_place
  g_within = omega arith

  pub h-within : h_place tz n r κ t₁ t₂ * d + pairs r * (t₁ * (1 * d)) ≤ opening_size tz n r κ t₁ t₂ * d
  unfolding opening_size rest_size garbage_size h_place g_place t_place
  h-within = omega arith
