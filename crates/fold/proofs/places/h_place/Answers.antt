-- `fold::places::h_place` meets its contract.
use mathlib.Core.Path.{ap₂}
use Prim.Native.Nat.{ℕ, ◌+◌}
use native.Mathlib.Omega.{arith}
use Rattle.fold.specs.Opening.{h_place}
use Rattle.fold.proofs.Laws.PlaceBounds.{g-size-bound, g-place-bound}
use Rattle.fold.proofs.places.h_place.Goals as goal

pub overflow_add-result : goal.overflow_add-result
overflow_add-result c =
    omega (
      arith,
      c.g_place-start.ensures,
      c.garbage_size-size.ensures,
      g-place-bound c.args.sizes c.requires.verify_sized c.args.tz c.requires.tz_bound,
      g-size-bound
          c.args.sizes c.requires.verify_sized,
    )

pub returns : goal.returns
unfolding h_place
returns c = ap₂ (λ (x y : ℕ). x + y) c.g_place-start.ensures c.garbage_size-size.ensures
