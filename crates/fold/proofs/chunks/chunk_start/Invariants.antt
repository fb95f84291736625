use Rattle.fold.specs.Known.CutSizes.{Begun}
use Rattle.fold.proofs.chunks.chunk_start.Given as goal

abbrev pub invariant-loop-k : goal.invariant-loop-k
invariant-loop-k l = Begun l.tz l.n l.nu l.m l.mu l.s l.at l.k
