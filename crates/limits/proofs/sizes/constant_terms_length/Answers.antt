-- `limits::sizes::constant_terms_length` meets its contract: constraints of at most 4232 elements and a number. Assumes nothing.
use native.Mathlib.Omega.{arith}
use mathlib.Core.Path.{ap}
use Prim.Native.Nat.{◌+◌, ◌*◌, ◌≤◌}
use Rattle.fold.specs.Limits.{most_constraints}
use Rattle.fold.specs.Refusals.{constant_terms_length}
use Rattle.fold.specs.Laws.SizeBounds.{product-fits, product-bound}
use Rattle.limits.specs.Laws.SizeLaws.{function-within}
use Rattle.limits.proofs.sizes.constant_terms_length.Goals as goal

few : (c : goal.After-function_size-function) → c.function_size-function.result ≤ 4232
few c = function-within _ _ c.function_size-function.ensures c.requires.1 c.requires.2

step : (c : goal.After-function_size-function) → c.function_size-function.result * c.args.d + 1 ≤ 4232 * 64 + 1
step c = omega (arith, product-bound _ _ 4232 64 (few c) c.requires.0)

pub overflow_mul-result : goal.overflow_mul-result
overflow_mul-result c = product-fits _ _ 4232 64 (few c) c.requires.0 tt

pub overflow_add-result : goal.overflow_add-result
overflow_add-result c = omega (arith, step c)

pub overflow_mul-result-2 : goal.overflow_mul-result-2
overflow_mul-result-2 c = product-fits _ _ most_constraints (4232 * 64 + 1) c.requires.3 (step c) tt

pub returns : goal.returns
unfolding constant_terms_length
returns c = ap (λ x. c.args.l * (x * c.args.d + 1)) c.function_size-function.ensures
