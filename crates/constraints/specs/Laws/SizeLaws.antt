-- Laws of the sizes of a constraint.
use Rattle.std.specs.Prelude.{◌≡◌, refl, ℕ, ◌+◌, ◌*◌, ◌≤◌}
use Rattle.std.proofs.Common.{mul-le-mul}
use Rattle.fold.specs.Sizes.{pairs, function_size}
use Rattle.fold.specs.Laws.SizeBounds.{function_size-bound}
use Rattle.fold.specs.Known.Facts.{Shaped}

pub function-parts : (n r : ℕ) → function_size n r ≡ pairs r + r * n
unfolding function_size
function-parts n r = refl

module _ {d n r : ℕ} (shaped : Shaped d n r) where
  pub witness_small : r * n ≤ 4096
  witness_small = mul-le-mul shaped.parts-small shaped.rank-small

  pub function-small : function_size n r ≤ 4232
  function-small = function_size-bound n r shaped.rank-small shaped.parts-small

  pub numbers-small : function_size n r * d ≤ 270848
  numbers-small = mul-le-mul function-small shaped.degree.small

  -- the elements of one φ_i
  pub phi-room : n * d ≤ 16384
  phi-room = mul-le-mul shaped.rank-small shaped.degree.small
