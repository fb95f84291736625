use mathlib.Core.Path.{◌≡◌}
use lib.ListN.{length}
use Rattle.fold.specs.Messages.{aggregate}
use Rattle.next_constraints.specs.Laws.FoldedLaws.{Folding}
use Rattle.next_constraints.proofs.folded.write_folded.Given as goal

abbrev pub invariant-loop-i : goal.invariant-loop-i
invariant-loop-i l = (length l.phi ≡ 16384) × Folding l.d l.n l.sizes.shape.r
    (aggregate l.d l.n l.sizes.shape.r l.sizes.k l.sizes.l l.sizes.w l.whole l.constant_terms l.projections l.psi l.omega l.alpha l.delta).φ l.c l.initial.out l.i l.out
