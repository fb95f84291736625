-- `next_cases::input::fitting` meets its contract. Assumes nothing.
use native.Mathlib.Omega.{arith}
use Rattle.next_cases.specs.Laws.WitnessLaws.{fitting_large, fitting-small}
use Rattle.next_cases.proofs.input.fitting.Goals as goal

pub returns-then-count-gt-ROOM : goal.returns-then-count-gt-ROOM
returns-then-count-gt-ROOM c = fitting_large 32768 c.args.count (omega arith)

pub returns-else-count-gt-ROOM : goal.returns-else-count-gt-ROOM
returns-else-count-gt-ROOM c = fitting-small 32768 c.args.count (omega arith)
