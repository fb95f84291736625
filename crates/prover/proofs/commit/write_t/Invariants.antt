use Rattle.std.proofs.Common.{◌*◌}
use Rattle.residues.specs.Digits.{split}
use Rattle.fold.specs.Messages.{elements, t}
use Rattle.ring.specs.Laws.Writers.{Blocks}
use Rattle.prover.proofs.commit.write_t.Given as goal

abbrev pub invariant-loop-i : goal.invariant-loop-i
invariant-loop-i l =
    let z = l.sizes in
    Blocks 0 l.r l.width (λ i. split z.b1 z.t1 (elements l.d z.kappa (t l.d l.n l.a_matrix l.witness i))) l.initial.out l.i (l.i * l.width) l.out
