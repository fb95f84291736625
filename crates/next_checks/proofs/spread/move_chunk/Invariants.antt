use Rattle.ring.specs.Laws.Writers.{Elements}
use Rattle.next_checks.specs.Spread.{chunk_entry}
use Rattle.next_checks.proofs.spread.move_chunk.Given as goal

abbrev pub invariant-loop-k : goal.invariant-loop-k
invariant-loop-k l = Elements l.d l.at l.rank (chunk_entry l.d l.initial.out l.from l.size) l.initial.out l.k l.out
