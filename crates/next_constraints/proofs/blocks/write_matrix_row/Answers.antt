-- `next_constraints::blocks::write_matrix_row` meets its contract.
use mathlib.Core.Path.{ap, ◌∙◌}
use Prim.Native.Nat.{◌+◌, ◌*◌}
use Rattle.integers.specs.Over.{over}
use Rattle.ring.specs.Element.{el}
use Rattle.next_constraints.specs.Laws.BlockLaws.{row-once}
use Rattle.next_constraints.proofs.blocks.write_matrix_row.Goals as goal

pub returns : goal.returns
returns c =
    let a = c.args in
    c.write_row.ensures ∙ ap (over a.out.now (a.at * a.d)) (row-once a.d a.m (λ y. el a.d a.xs.now (a.k * a.m + y)))
