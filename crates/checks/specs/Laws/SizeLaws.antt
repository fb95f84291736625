-- The blocks of an opening lie within it, and a bound of a constraint's functions.
use Rattle.std.specs.Prelude.{◌≡◌, ℕ, ◌+◌, ◌*◌, ◌<◌, ◌≤◌}
use Rattle.std.proofs.Common.{mul-le-mul_right, arith}
use Rattle.fold.specs.declared.Sizes.{Sizes}
use Rattle.fold.specs.Sizes.{function_size, t_size, garbage_size, rest_size, opening_size}
use Rattle.fold.specs.Laws.SizeBounds.{function_size-bound}
use Rattle.fold.specs.Opening.{t_place, g_place, h_place}
use Rattle.fold.specs.Known.Facts.{Shaped}

-- the blocks lie within the opening, which is o long and whose z has tz digits
module _ (tz : ℕ) (s : Sizes) (o : ℕ) (whole : o ≡ opening_size tz s.shape.n s.shape.r s.kappa s.t1 s.t2 * s.shape.d) where
  pub z-within : tz * s.shape.n * s.shape.d ≤ o
  unfolding opening_size
  z-within = omega (arith, whole)

  pub t_within : (t_place tz s.shape.n + t_size s.shape.r s.kappa s.t1) * s.shape.d ≤ o
  unfolding opening_size rest_size t_place
  t_within = omega (arith, whole)

  pub g_within : (g_place tz s.shape.n s.shape.r s.kappa s.t1 + garbage_size s.shape.r s.t2) * s.shape.d ≤ o
  unfolding opening_size rest_size g_place t_place
  g_within = omega (arith, whole)

  pub h-within : (h_place tz s.shape.n s.shape.r s.kappa s.t1 s.t2 + garbage_size s.shape.r s.t1) * s.shape.d ≤ o
  unfolding opening_size rest_size h_place g_place t_place
  h-within = omega (arith, whole)

pub t-before-h : (tz : ℕ) (s : Sizes) → t_place tz s.shape.n ≤ h_place tz s.shape.n s.shape.r s.kappa s.t1 s.t2
unfolding h_place g_place
t-before-h tz s = omega arith

-- the digits of t_i lie within the t block
pub t-part-within : (tz : ℕ) (s : Sizes) (o : ℕ) → o ≡ opening_size tz s.shape.n s.shape.r s.kappa s.t1 s.t2 * s.shape.d → (i place : ℕ) → i < s.shape.r → place ≡ t_place tz s.shape.n
    → (place + (i * s.t1 + s.t1) * s.kappa) * s.shape.d ≤ o
unfolding t_size
t-part-within tz s o whole i place h e =
    let below : place + (i * s.t1 + s.t1) * s.kappa ≤ t_place tz s.shape.n + t_size s.shape.r s.kappa s.t1
    = omega (arith, mul-le-mul_right (s.t1 * s.kappa) h) in
    omega (arith, t_within tz s o whole, mul-le-mul_right s.shape.d below)

pub function-size-bound : {d n r : ℕ} → Shaped d n r → function_size n r ≤ 4232
function-size-bound shaped = function_size-bound _ _ shaped.rank-small shaped.parts-small
