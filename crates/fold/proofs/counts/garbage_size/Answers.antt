-- `fold::counts::garbage_size` meets its contract: at most 136 pairs of 8 digits. Assumes nothing.
use mathlib.Core.Path.{ap}
use Prim.Native.Nat.{◌*◌, ◌≤◌}
use Rattle.fold.specs.Sizes.{garbage_size}
use Rattle.fold.specs.Laws.SizeBounds.{product-fits, pairs-bound}
use Rattle.fold.proofs.counts.garbage_size.Goals as goal

pub overflow_mul-result : goal.overflow_mul-result
overflow_mul-result c =
    let few : c.pair_count.result ≤ 136 = rw c.pair_count.ensures (pairs-bound _ c.requires.0) in
    product-fits _ _ 136 8 few c.requires.1 tt

pub returns : goal.returns
unfolding garbage_size
returns c = ap (λ x. x * c.args.t) c.pair_count.ensures
