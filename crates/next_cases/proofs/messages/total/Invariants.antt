use mathlib.Core.Path.{◌≡◌}
use Rattle.next_cases.specs.Messages.{start_of}
use Rattle.next_cases.proofs.messages.total.Given as goal

abbrev pub invariant-loop-i : goal.invariant-loop-i
invariant-loop-i l = l.sum ≡ start_of l.room l.lengths l.i
