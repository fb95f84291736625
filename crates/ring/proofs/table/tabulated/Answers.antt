-- `ring::table::tabulated` meets its contract. The loop's invariant: the first k numbers are in place, zeros follow, for every h that f computes.
use Rattle.std.proofs.Common.{◌∙◌, arith, to_z-of_z, w32}
use Rattle.ring.specs.Laws.Loops.{filling_start, filling_step, filling_end}
use Rattle.ring.proofs.table.tabulated.Goals as goal

pub loop-k-init : goal.loop-k-init
loop-k-init g c = λ h computes. filling_start

pub loop-k-preserved : goal.loop-k-preserved
loop-k-preserved g c = λ h computes.
    filling_step (c.loop-k.invariant h computes) c.requires.degree.small (omega arith)
    (to_z-of_z {w = w32} (record { sfits = c.f.type_inv }) ∙ computes _ _ c.loop-k-test.true c.f.ensures)

pub returns : goal.returns
returns g c = λ h computes. filling_end (c.loop-k.invariant h computes) c.loop-k-test.false
