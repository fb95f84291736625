use Rattle.fold.specs.Messages.{aggregate}
use Rattle.ring.specs.Laws.Writers.{Elements}
use Rattle.constraints.proofs.phi.write_phi_part.Given as goal

abbrev pub invariant-loop-y : goal.invariant-loop-y
invariant-loop-y l =
    let shape = l.sizes.shape in
    Elements shape.d 0 shape.n ((aggregate shape.d shape.n shape.r l.sizes.k l.sizes.l l.sizes.w l.whole l.constant_terms
    l.projections l.psi l.omega l.alpha l.delta).φ l.i) l.initial.out l.y l.out
