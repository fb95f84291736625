use Rattle.std.proofs.Common.{length}
use Rattle.cases.specs.Laws.TextLaws.{Scanning}
use Rattle.cases.proofs.text.scan.Given as goal

abbrev pub invariant-loop-byte : goal.invariant-loop-byte
invariant-loop-byte l = Scanning l.line (length l.initial.numbers) l.numbers l.minus l.magnitude l.count l.byte-index
