-- `fields::walk::laid_end` meets its contract.
use native.Mathlib.Omega.{arith}
use Rattle.fields.specs.Laws.PlaceLaws.{laid-start, laid-step, laid-fits, laid_broken}
use Rattle.fields.proofs.walk.laid_end.Goals as goal

pub loop-i-init : goal.loop-i-init
loop-i-init c = laid-start _ _ _ _

pub returns-then-not-is_laid : goal.returns-then-not-is_laid
returns-then-not-is_laid c =
    laid_broken _ _ _ _ _ _ c.loop-i.invariant c.loop-i-test.true
    c.ends_line-last.ensures c.is_laid.ensures c.if-not-is_laid.true

pub overflow_add-here : goal.overflow_add-here
overflow_add-here c =
    omega (
      arith,
      laid-fits _ _ _ _ _ _ c.loop-i.invariant
          c.loop-i-test.true c.ends_line-last.ensures
          c.is_laid.ensures c.if-not-is_laid.false c.field_width-here.ensures,
    )

pub loop-i-preserved : goal.loop-i-preserved
loop-i-preserved c =
    laid-step _ _ _ _ _ _ c.loop-i.invariant c.loop-i-test.true
    c.ends_line-last.ensures c.is_laid.ensures c.if-not-is_laid.false c.field_width-here.ensures
