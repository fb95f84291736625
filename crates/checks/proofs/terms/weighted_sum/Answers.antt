-- `checks::terms::weighted_sum` meets its contract. The accumulator holds the sum of the products so far.
use Rattle.std.proofs.Common.{arith, to_z-of_z, w32}
use mir.Facts.{of_z-to_z}
use Rattle.checks.specs.Laws.ConstantTermLaws.{weighed-start, weighed-step, weighed-end}
use Rattle.checks.proofs.terms.weighted_sum.Goals as goal

pub loop-l-init : goal.loop-l-init
loop-l-init c = weighed-start _ _

pub loop-l-preserved : goal.loop-l-preserved
loop-l-preserved c =
    let a = c.args in
    rw (to_z-of_z {w = w32} {z = c.add-acc.result} (record { sfits = c.add-acc.type_inv }))
    (weighed-step a.count _ a.at _ a.first a.step c.loop-l.l c.loop-l.acc-bits _ _ (rw (of_z-to_z c.loop-l.auto.acc-fits) at c.loop-l.invariant)
    c.loop-l-test.true (omega arith) (omega arith) c.multiply-product.ensures c.add-acc.ensures)

pub returns : goal.returns
returns c = weighed-end _ _ (rw (of_z-to_z c.loop-l.auto.acc-fits) at c.loop-l.invariant) c.loop-l-test.false
