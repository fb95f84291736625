use Rattle.std.proofs.Common.{◌+◌, ◌-◌}
use Rattle.fold.specs.Messages.{g}
use Rattle.ring.specs.Laws.Writers.{Elements}
use Rattle.prover.proofs.garbage.write_pair_row.Given as goal

abbrev pub invariant-loop-k : goal.invariant-loop-k
invariant-loop-k l = Elements l.d l.at (l.r - l.i) (λ k. g l.d l.n l.witness l.i (l.i + k)) l.initial.out l.k l.out
