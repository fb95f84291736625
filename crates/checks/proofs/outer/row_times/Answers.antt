-- `checks::outer::row_times` meets its contract.
use Rattle.std.proofs.Common.{ap, ◌∙◌}
use Rattle.ring.specs.Element.{array}
use Rattle.checks.specs.Laws.PlaceLaws.{row-times}
use Rattle.checks.proofs.outer.row_times.Goals as goal

pub returns : goal.returns
returns c =
    let a = c.args in
    c.inner.ensures ∙ ap (array a.d) (row-times a.d a.m _ a.k _ a.place)
