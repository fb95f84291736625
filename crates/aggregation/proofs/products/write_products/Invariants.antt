use Rattle.std.proofs.Common.{◌≡◌, ◌*◌, length}
use Rattle.aggregation.specs.Garbage.{cross}
use Rattle.fold.specs.Messages.{elements, aggregate}
use Rattle.ring.specs.Laws.Writers.{Blocks}
use Rattle.aggregation.proofs.products.write_products.Given as goal

abbrev pub invariant-loop-i : goal.invariant-loop-i
invariant-loop-i l =
    let z = l.shape in
    (length l.phi ≡ 16384) × Blocks 0 z.r (z.r * z.d) (λ i. elements z.d z.r (cross z.d z.n
    (aggregate z.d z.n z.r l.sizes.k l.sizes.l l.sizes.w l.whole l.constant_terms l.projections l.psi l.omega l.alpha l.delta).φ l.witness i))
    l.initial.out l.i (l.i * (z.r * z.d)) l.out
