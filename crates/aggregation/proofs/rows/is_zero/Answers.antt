-- `aggregation::rows::is_zero` meets its contract. The loop has tested the first k entries.
use Rattle.std.proofs.Common.{ap, ◌∙◌, [], arith, get_or}
use Rattle.ring.specs.Element.{lift, same}
use Rattle.ring.specs.Laws.Loops.{tested-start, tested-step, tested-end, held}
use Rattle.aggregation.proofs.rows.is_zero.Goals as goal

pub loop-entry-init : goal.loop-entry-init
loop-entry-init c = tested-start

pub loop-entry-preserved : goal.loop-entry-preserved
loop-entry-preserved c =
    let zero = held c.requires.small (c.additive_identity.ensures c.args.d) in
    tested-step c.loop-entry.invariant (omega arith)
    (c.equal-all.ensures ∙ ap (same c.args.d (lift c.args.d (get_or c.args.row c.loop-entry.entry-index []))) zero)

pub returns : goal.returns
returns c = tested-end c.loop-entry.invariant c.loop-entry-test.false
