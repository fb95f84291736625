-- `ring_cases::input::degree_at` meets its contract. Assumes nothing.
use Rattle.std.proofs.Common.{arith}
use Rattle.ring_cases.specs.Input.{degree_at}
use Rattle.ring_cases.proofs.input.degree_at.Goals as goal

pub returns : goal.returns
unfolding degree_at
returns c = omega (arith, c.max.ensures, c.size.ensures)
