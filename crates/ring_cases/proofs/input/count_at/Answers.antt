-- `ring_cases::input::count_at` meets its contract. Assumes nothing.
use Rattle.std.proofs.Common.{arith}
use Rattle.ring_cases.specs.Input.{count_at}
use Rattle.ring_cases.proofs.input.count_at.Goals as goal

pub returns : goal.returns
unfolding count_at
returns c = omega (arith, c.max.ensures, c.size.ensures)
