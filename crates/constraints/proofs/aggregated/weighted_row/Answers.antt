-- `constraints::aggregated::weighted_row` meets its contract. The loop has added the first k of the five summands.
use Rattle.std.proofs.Common.{ap, ◌∙◌, [], arith, get_or}
use Rattle.ring.specs.Element.{R, lift, array}
use Rattle.ring.specs.Laws.Loops.{summed_start, summed_step, held}
use Rattle.constraints.proofs.aggregated.weighted_row.Goals as goal

pub loop-k-init : goal.loop-k-init
loop-k-init c = summed_start (c.additive_identity-sum.ensures _)

pub loop-k-preserved : goal.loop-k-preserved
loop-k-preserved c =
    let d = c.args.d in
    let weight = held c.requires.degree.small c.from_slice-weight.ensures in
    let entry = lift d (get_or c.args.row c.loop-k.k []) in
    summed_step c.loop-k.invariant c.requires.degree (omega arith)
    (c.product.ensures ∙ ap (λ u. array d ((R d).mul u entry)) weight) c.sum-sum.ensures
