-- `fields::walk::fill` meets its contract.
use native.Mathlib.Omega.{arith}
use mathlib.Core.Path.{◌∙◌}
use mir.Facts.{to_z-of_z}
use Rattle.fields.specs.Laws.WalkLaws.{walked_index, walked_fits, filled-start, filled-small, filled-step}
use mir.Syntax.{w32}
use mir.Syntax.{w64}
use Rattle.fields.proofs.walk.fill.Goals as goal

pub loop-j-init : goal.loop-j-init
loop-j-init c = filled-start c.requires.span

pub narrow-requires : goal.narrow-requires
narrow-requires c =
    rw (to_z-of_z {w = w64} (record { sfits = c.number_at.type_inv }), c.number_at.ensures)
    (filled-small c.loop-j.invariant c.loop-j-test.true c.requires.count_value)

pub overflow_add-from : goal.overflow_add-from
overflow_add-from c = omega (arith, walked_index c.loop-j.invariant.walk c.loop-j-test.true)

pub overflow_add-here : goal.overflow_add-here
overflow_add-here c = omega (arith, walked_fits c.loop-j.invariant.walk c.loop-j-test.true c.ends_line.ensures c.field_width-here.ensures)

pub loop-j-preserved : goal.loop-j-preserved
loop-j-preserved c =
    let number = to_z-of_z {w = w32} (record { sfits = c.narrow.type_inv }) ∙ c.narrow.ensures
    ∙ to_z-of_z {w = w64} (record { sfits = c.number_at.type_inv }) ∙ c.number_at.ensures in
    filled-step c.loop-j.invariant c.loop-j-test.true c.requires.count_in_bounds number
    c.ends_line.ensures c.field_width-here.ensures
