-- `fold::counts::opening_size` meets its contract: the digits of z, then t, g and h. Assumes nothing.
use mathlib.Core.Path.{refl}
use native.Mathlib.Omega.{arith}
use Rattle.fold.specs.Sizes.{opening_size, rest_size}
use Rattle.fold.specs.Laws.SizeBounds.{product-fits, opening_size-bound}
use Rattle.fold.proofs.counts.opening_size.Goals as goal

pub overflow_mul-result : goal.overflow_mul-result
overflow_mul-result c = let p = c.requires in product-fits _ _ 2 256 p.0 p.1 tt

pub overflow_add-result : goal.overflow_add-result
unfolding opening_size rest_size
overflow_add-result c =
    let p = c.requires in
    omega (
      arith,
      c.t_size-t.ensures,
      c.garbage_size-g.ensures,
      c.garbage_size-h.ensures,
      opening_size-bound _ _ _ _ _ _ p.0 p.1 p.2 p.3 p.4 p.5,
    )

pub overflow_add-result-2 : goal.overflow_add-result-2
unfolding opening_size rest_size
overflow_add-result-2 c =
    let p = c.requires in
    omega (
      arith,
      c.t_size-t.ensures,
      c.garbage_size-g.ensures,
      c.garbage_size-h.ensures,
      opening_size-bound _ _ _ _ _ _ p.0 p.1 p.2 p.3 p.4 p.5,
    )

pub overflow_add-result-3 : goal.overflow_add-result-3
unfolding opening_size rest_size
overflow_add-result-3 c =
    let p = c.requires in
    omega (
      arith,
      c.t_size-t.ensures,
      c.garbage_size-g.ensures,
      c.garbage_size-h.ensures,
      opening_size-bound _ _ _ _ _ _ p.0 p.1 p.2 p.3 p.4 p.5,
    )

pub returns : goal.returns
unfolding opening_size rest_size
returns c = rw (c.t_size-t.ensures, c.garbage_size-g.ensures, c.garbage_size-h.ensures) refl
