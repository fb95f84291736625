-- `next_constraints::blocks::write_z_digit` meets its contract.
use Rattle.std.proofs.Common.{◌+◌, ap, ◌∙◌}
use Rattle.integers.specs.Over.{over}
use Rattle.ring.specs.Element.{el}
use Rattle.next_constraints.specs.Laws.Powers.{weighted-row}
use Rattle.next_constraints.proofs.blocks.write_z_digit.Goals as goal

pub returns : goal.returns
returns c =
    let a = c.args in
    c.write_row.ensures ∙ ap (over _ _) (weighted-row a.d a.n a.b a.e _ (λ k. el a.d a.xs.now (a.from + k)) c.power.ensures)
