-- `next_cases::twice::product` meets its contract. Assumes nothing.
use Prim.Native.Nat.{◌*◌, ◌≤◌}
use native.Mathlib.Omega.{arith}
use Rattle.next_cases.specs.Laws.WitnessLaws.{product-bound}
use Rattle.next_cases.proofs.twice.product.Goals as goal

pub overflow_mul-result : goal.overflow_mul-result
overflow_mul-result c =
    let small : c.fitting.result * c.fitting-2.result ≤ 1073741824 =
    rw (c.fitting.ensures, c.fitting-2.ensures) (product-bound c.args.x c.args.y) in
    omega arith

pub returns : goal.returns
returns c = λ i. c.fitting.ensures i * c.fitting-2.ensures i
