-- `ring::product::columns` meets its contract. For each column the loop keeps the sum modulo 2^64 and the sum of the upper halves.
use Rattle.std.proofs.Common.{refl, arith}
use Rattle.ring.specs.Product.{summand, column}
use Rattle.ring.specs.Laws.ColumnLaws.{summand-small, running_start, running_step, running_end}
use Rattle.ring.specs.Laws.ColumnLaws.{running_high, running_high-fits, running_end-fits}
use Rattle.ring.proofs.product.columns.Goals as goal

pub loop-i-init : goal.loop-i-init
loop-i-init c = (running_start _ _ (summand-small _ _ _), running_start _ _ (summand-small _ _ _))

pub overflow_add-high : goal.overflow_add-high
unfolding summand
overflow_add-high c = running_high-fits c.loop-i.invariant.0 c.requires.0

pub overflow_add-high2 : goal.overflow_add-high2
unfolding summand
overflow_add-high2 c = running_high-fits c.loop-i.invariant.1 c.requires.0

pub loop-i-preserved : goal.loop-i-preserved
unfolding summand
loop-i-preserved c = (
  running_step c.loop-i.invariant.0 c.requires.0 c.loop-i-test.true refl,
  running_step c.loop-i.invariant.1 c.requires.0 c.loop-i-test.true refl,
)

pub overflow_mul-result : goal.overflow_mul-result
overflow_mul-result c = omega (arith, running_high c.loop-i.invariant.0 c.requires.0)

pub overflow_add-result : goal.overflow_add-result
overflow_add-result c = running_end-fits c.loop-i.invariant.0 c.requires.0 c.loop-i-test.false (omega arith) (omega arith)

pub overflow_mul-result-2 : goal.overflow_mul-result-2
overflow_mul-result-2 c = omega (arith, running_high c.loop-i.invariant.1 c.requires.0)

pub overflow_add-result-2 : goal.overflow_add-result-2
overflow_add-result-2 c = running_end-fits c.loop-i.invariant.1 c.requires.0 c.loop-i-test.false (omega arith) (omega arith)

pub returns : goal.returns
unfolding column
returns c =
    record {
      first = running_end c.loop-i.invariant.0 c.requires.0 c.loop-i-test.false (omega arith) (omega arith);
      second = running_end c.loop-i.invariant.1 c.requires.0 c.loop-i-test.false (omega arith) (omega arith);
    }
