use Rattle.std.proofs.Common.{◌≡◌, ◌+◌, ◌≤◌, length}
use Rattle.cases.specs.Text.{past_lines}
use Rattle.cases.proofs.lines.run_all.Given as goal

abbrev pub invariant-loop-rest : goal.invariant-loop-rest
invariant-loop-rest g l = record {
  callable : goal.F-IsAlwaysCallable g l.run_line;
  is : l.rest ≡ past_lines l.count l.text;
  counted : l.count + length l.rest ≤ length l.text;
}

abbrev pub decreases-loop-rest : goal.decreases-loop-rest
decreases-loop-rest g l = length l.rest
