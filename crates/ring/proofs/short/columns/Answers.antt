-- `ring::short::columns` meets its contract. For each column the loop keeps c and the sum of the products so far.
use Rattle.ring.specs.Product.{summand}
use Rattle.ring.specs.Short.{short_column}
use Rattle.ring.specs.Laws.ShortLaws.{narrow-summand, sized-start, sized-step, sized-fits, sized-end}
use Rattle.ring.proofs.short.columns.Goals as goal

pub loop-i-init : goal.loop-i-init
loop-i-init c =
    let (d≤64, start≤d, other≤d, c-small, narrow) = c.requires in (
      sized-start _ _ _ (λ j h. narrow-summand _ _ _ _ j narrow start≤d h),
      sized-start _ _ _ (λ j h. narrow-summand _ _ _ _ j narrow other≤d h),
    )

pub overflow_add-sum : goal.overflow_add-sum
unfolding summand
overflow_add-sum c = sized-fits c.loop-i.invariant.0 c.requires.0 c.requires.3 c.loop-i-test.true

pub overflow_add-sum2 : goal.overflow_add-sum2
unfolding summand
overflow_add-sum2 c = sized-fits c.loop-i.invariant.1 c.requires.0 c.requires.3 c.loop-i-test.true

pub loop-i-preserved : goal.loop-i-preserved
unfolding summand
loop-i-preserved c =
    let t = c.loop-i-test.true in (
      sized-step c.loop-i.invariant.0 c.requires.0 c.requires.3 t,
      sized-step c.loop-i.invariant.1 c.requires.0 c.requires.3 t,
    )

pub returns : goal.returns
unfolding short_column
returns c =
    record {
      first = sized-end c.loop-i.invariant.0 c.requires.0 c.requires.3 c.loop-i-test.false;
      second = sized-end c.loop-i.invariant.1 c.requires.0 c.requires.3 c.loop-i-test.false;
    }
