use Prim.Native.Nat.{◌*◌}
use Rattle.ring.specs.Laws.Writers.{Blocks}
use Rattle.fold.specs.Messages.{elements, aggregate}
use Rattle.bare_prover.proofs.phi.write_phi.Given as goal

abbrev pub invariant-loop-i : goal.invariant-loop-i
invariant-loop-i l = Blocks 0 l.sizes.shape.r (l.sizes.shape.n * l.sizes.shape.d) (λ i. elements l.sizes.shape.d l.sizes.shape.n ((aggregate l.sizes.shape.d l.sizes.shape.n l.sizes.shape.r l.sizes.k
    l.sizes.l l.sizes.w l.whole l.constant_terms l.projections l.psi l.omega l.alpha l.delta).φ i)) l.initial.out l.i l.at l.out
