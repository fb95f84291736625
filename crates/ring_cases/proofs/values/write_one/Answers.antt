-- `ring_cases::values::write_one` meets its contract. Assumes nothing.
use mir.Facts.{to_z-of_z}
use Rattle.ring_cases.specs.Laws.ResultLaws.{one_out}
use Rattle.ring_cases.proofs.values.write_one.Goals as goal

pub returns : goal.returns
returns c = rw (to_z-of_z c.ranges.x) (one_out c.args.x c.args.out.now c.requires)
