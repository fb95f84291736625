-- `bare_refusals::unmixed::each_unmixed` meets its contract. The constraints so far are tested. Assumes nothing.
use Rattle.std.proofs.Common.{◌*◌, ap, ◌∙◌, ℤ, List}
use Rattle.integers.specs.Laws.ListLaws.{rest_all}
use Rattle.ring.specs.Laws.Loops.{tested-start, tested-step}
use Rattle.bare.specs.Refusals.{unmixed}
use Rattle.bare_refusals.proofs.unmixed.each_unmixed.Goals as goal

pub loop-k-init : goal.loop-k-init
loop-k-init c = tested-start

pub loop-k-preserved : goal.loop-k-preserved
loop-k-preserved c =
    let a = c.args in
    tested-step c.loop-k.invariant c.loop-k-test.true
    (c.function_unmixed-all.ensures ∙ ap (λ (ys : List ℤ). unmixed a.d a.r ys) (rest_all a.xs.now (c.loop-k.k * a.step)))
