-- `fold::chunks::rest_size` meets its contract: t, g and h. Assumes nothing.
use mathlib.Core.Path.{refl}
use native.Mathlib.Omega.{arith}
use Rattle.fold.specs.Sizes.{rest_size}
use Rattle.fold.specs.Known.CutSizes.{rest_size-bound}
use Rattle.fold.proofs.chunks.rest_size.Goals as goal

pub overflow_add-result : goal.overflow_add-result
unfolding rest_size
overflow_add-result c =
    let p = c.requires in
    omega (
      arith,
      c.t_size-t.ensures,
      c.garbage_size-g.ensures,
      c.garbage_size-h.ensures,
      rest_size-bound _ _ _ _ p.0 p.1 p.2 p.3,
    )

pub overflow_add-result-2 : goal.overflow_add-result-2
unfolding rest_size
overflow_add-result-2 c =
    let p = c.requires in
    omega (
      arith,
      c.t_size-t.ensures,
      c.garbage_size-g.ensures,
      c.garbage_size-h.ensures,
      rest_size-bound _ _ _ _ p.0 p.1 p.2 p.3,
    )

pub returns : goal.returns
unfolding rest_size
returns c = rw (c.t_size-t.ensures, c.garbage_size-g.ensures, c.garbage_size-h.ensures) refl
