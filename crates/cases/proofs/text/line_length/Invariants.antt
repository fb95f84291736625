use Rattle.std.proofs.Common.{◌≡◌, ◌+◌, drop}
use Rattle.cases.specs.Text.{line_length}
use Rattle.cases.proofs.text.line_length.Given as goal

abbrev pub invariant-loop-i : goal.invariant-loop-i
invariant-loop-i l = line_length l.text ≡ l.i + line_length (drop l.i l.text)
