-- `fields::write::write_blanks` meets its contract.
use Rattle.fields.specs.Laws.WriteLaws.{blanked_start, blanked_step}
use Rattle.fields.proofs.write.write_blanks.Goals as goal

pub loop-k-init : goal.loop-k-init
loop-k-init c = blanked_start _ _

pub loop-k-preserved : goal.loop-k-preserved
loop-k-preserved c = blanked_step _ _ c.requires c.loop-k.invariant c.loop-k-test.true
