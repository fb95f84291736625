-- `refusals::ranges::vanishes_from` meets its contract. Assumes nothing.
use mathlib.Core.Path.{◌∙◌}
use Rattle.residues.proofs.Laws.RangeLaws.{between-zero}
use Rattle.refusals.specs.Laws.ProductLaws.{none_from, rest_from}
use Rattle.refusals.proofs.ranges.vanishes_from.Goals as goal

pub returns-then-xs-d : goal.returns-then-xs-d
returns-then-xs-d c = none_from _ _ c.if-xs-d.true

pub returns : goal.returns
returns c =
    let args = c.args in
    rest_from args.d args.xs.now (c.all_between.ensures ∙ between-zero _)
