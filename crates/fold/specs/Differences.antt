-- SPECIFICATION 9.5: "differences are taken modulo q and centred. The t and g digits are one vector, in the opening's order."
use Rattle.std.specs.Prelude.{List, ◌+◌, ◌*◌, length, get_or, take, drop, ℤ, pos, ◌-ℤ◌}
use Rattle.integers.specs.Lists.{tab}
use Rattle.residues.specs.Modulus.{centred}
use Rattle.fold.specs.Sizes.{t_size, garbage_size}
use Rattle.fold.specs.Statement.{Statement}
use Rattle.fold.specs.Opening.{t_place}

unfoldable pub difference : (xs ys : List ℤ) → List ℤ
difference xs ys = tab (length xs) (λ i. centred (get_or xs i (pos 0) -ℤ get_or ys i (pos 0)))

module _ (𝓢 : Statement) (o : List ℤ) where
  open 𝓢 use {relation, tz, κ, t₁, t₂}
  open relation use {d, n, r}

  -- the t and g digits of the opening o
  unfoldable pub tg_digits : List ℤ
  tg_digits = take ((t_size r κ t₁ + garbage_size r t₂) * d) (drop (t_place tz n * d) o)
