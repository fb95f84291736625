-- `fold::places::g_place` meets its contract.
use mathlib.Core.Path.{ap₂}
use Prim.Native.Nat.{ℕ, ◌+◌}
use native.Mathlib.Omega.{arith}
use Rattle.fold.specs.Opening.{g_place}
use Rattle.fold.proofs.Laws.PlaceBounds.{t-size-bound, t-place-bound}
use Rattle.fold.proofs.places.g_place.Goals as goal

pub overflow_add-result : goal.overflow_add-result
overflow_add-result c =
    omega (
      arith,
      c.t_place-start.ensures,
      c.t_size-size.ensures,
      t-place-bound c.args.sizes c.requires.verify_sized c.args.tz c.requires.tz_bound,
      t-size-bound
          c.args.sizes c.requires.verify_sized,
    )

pub returns : goal.returns
unfolding g_place
returns c = ap₂ (λ (x y : ℕ). x + y) c.t_place-start.ensures c.t_size-size.ensures
