use Rattle.fields.specs.Sections.{ends_line}
use Rattle.writer.proofs.Laws.LineLaws.{BodyWritten}
use Rattle.writer.proofs.lines.write_lines.Given as goal

abbrev pub invariant-loop-i : goal.invariant-loop-i
invariant-loop-i l = BodyWritten (ends_line l.q) l.numbers l.initial.text l.text l.here l.i
