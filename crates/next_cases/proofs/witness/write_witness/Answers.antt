-- `next_cases::witness::write_witness` meets its contract. The loop's invariant: i parts are written. Assumes nothing.
use native.Mathlib.Omega.{arith}
use Rattle.next_cases.specs.Laws.WitnessLaws.{writing_start, writing_length, place_inside, writing_next, writing_end}
use Rattle.next_cases.proofs.witness.write_witness.Goals as goal

pub loop-i-init : goal.loop-i-init
loop-i-init c = writing_start _ _ _ _ _

pub put-at-requires : goal.put-at-requires
put-at-requires c = place_inside c.loop-i.invariant

pub loop-i-preserved : goal.loop-i-preserved
loop-i-preserved c =
    writing_next c.loop-i.invariant (omega arith) c.next_part.ensures c.put-at.ensures.0
    c.put-at.ensures.1

pub shape_of-out : goal.shape_of-out
shape_of-out c = writing_length c.loop-i.invariant

pub returns : goal.returns
returns c = writing_end c.loop-i.invariant (omega arith)
