-- `ring_cases::input::base_at` meets its contract. Assumes nothing.
use Rattle.std.proofs.Common.{arith}
use Rattle.ring_cases.specs.Input.{base_at}
use Rattle.ring_cases.proofs.input.base_at.Goals as goal

pub returns : goal.returns
unfolding base_at
returns c = omega (arith, c.max.ensures, c.size.ensures)
