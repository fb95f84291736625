-- `cases::input::count_at` meets its contract. Assumes nothing.
use lib.IntN.{pos}
use Rattle.cases.specs.Laws.InputLaws.{part-fits, count_fits}
use Rattle.cases.proofs.input.count_at.Goals as goal

pub returns : goal.returns
returns c = (c.size.ensures, part-fits 8192 c.size.result (pos 77) (count_fits c.args.lengths.now c.args.place c.size.ensures))
