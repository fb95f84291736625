-- `checks::recomposed::write_z` meets its contract. The first k elements are written.
use Rattle.std.proofs.Common.{sym, ap, ◌∙◌, zero-add}
use Rattle.ring.specs.Element.{array}
use Rattle.fold.specs.Messages.{elements}
use Rattle.ring.specs.Laws.Writers.{elements_start₀, elements-turn, elements_end₀}
use Rattle.checks.specs.Laws.PlaceLaws.{z-recomposed}
use Rattle.checks.proofs.recomposed.write_z.Goals as goal

pub loop-k-init : goal.loop-k-init
loop-k-init c = elements_start₀ c.requires.d_in_bounds.1

pub loop-k-preserved : goal.loop-k-preserved
loop-k-preserved c =
    let a = c.args in
    elements-turn c.loop-k.invariant c.requires.degree (sym (zero-add _)) c.loop-k-test.true
    (c.recompose.ensures ∙ ap (array a.d) (z-recomposed a.d a.n a.tz a.b _ c.loop-k.k)) c.store.ensures

pub returns : goal.returns
unfolding elements
returns c = elements_end₀ c.loop-k.invariant c.loop-k-test.false
