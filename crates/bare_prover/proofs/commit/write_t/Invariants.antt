use Prim.Native.Nat.{◌*◌}
use Rattle.ring.specs.Laws.Writers.{Blocks}
use Rattle.fold.specs.Messages.{elements, t}
use Rattle.bare_prover.proofs.commit.write_t.Given as goal

abbrev pub invariant-loop-i : goal.invariant-loop-i
invariant-loop-i l = Blocks 0 l.shape.r (l.kappa * l.shape.d) (λ i. elements l.shape.d l.kappa (t l.shape.d l.shape.n l.a_matrix l.witness i)) l.initial.out l.i (l.i * (l.kappa * l.shape.d)) l.out
