-- `limits::sizes::whole_length` meets its contract: constraints of at most 4233 elements. Assumes nothing.
use native.Mathlib.Omega.{arith}
use mathlib.Core.Path.{ap}
use Prim.Native.Nat.{◌+◌, ◌*◌, ◌≤◌}
use Rattle.fold.specs.Limits.{most_constraints}
use Rattle.fold.specs.Refusals.{whole_length}
use Rattle.fold.specs.Laws.SizeBounds.{product-fits, product-bound}
use Rattle.limits.specs.Laws.SizeLaws.{function-within}
use Rattle.limits.proofs.sizes.whole_length.Goals as goal

few : (c : goal.After-function_size-function) → c.function_size-function.result + 1 ≤ 4233
few c = omega (arith, function-within _ _ c.function_size-function.ensures c.requires.1 c.requires.2)

pub overflow_add-result : goal.overflow_add-result
overflow_add-result c = omega (arith, few c)

pub overflow_mul-result : goal.overflow_mul-result
overflow_mul-result c = product-fits _ _ 4233 64 (few c) c.requires.0 tt

pub overflow_mul-result-2 : goal.overflow_mul-result-2
overflow_mul-result-2 c = product-fits _ _ most_constraints (4233 * 64) c.requires.3 (product-bound _ _ 4233 64 (few c) c.requires.0) tt

pub returns : goal.returns
unfolding whole_length
returns c = ap (λ x. c.args.k * ((x + 1) * c.args.d)) c.function_size-function.ensures
