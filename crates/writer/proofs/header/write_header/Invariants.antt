use Rattle.writer.proofs.Laws.LineLaws.{HeaderWritten}
use Rattle.writer.proofs.header.write_header.Given as goal

abbrev pub invariant-loop-k : goal.invariant-loop-k
invariant-loop-k l = HeaderWritten l.word-items l.initial.text l.text l.k
