-- `fields::sizes::row_count` meets its contract.
use mathlib.Core.Path.{refl}
use native.Mathlib.Nat.{mul-le-mul}
use native.Mathlib.Omega.{arith}
use Rattle.fields.specs.Sections.{row_count}
use Rattle.fields.proofs.sizes.row_count.Goals as goal

pub returns : goal.returns
unfolding row_count
returns c = (refl, omega (arith, mul-le-mul c.requires.w-small (mul-le-mul c.requires.shaped.parts-small c.requires.shaped.rank-small)))
