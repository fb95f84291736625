use Rattle.algebra.specs.Sum.{sum}
use Rattle.ring.specs.Element.{R, el, same}
use Rattle.ring.specs.Laws.Loops.{Tested}
use Rattle.fold.specs.Messages.{times}
use Rattle.bare.specs.Opening.{t_at, z_at}
use Rattle.bare_verifier.proofs.folded.amortized.Given as goal

abbrev pub invariant-loop-k : goal.invariant-loop-k
invariant-loop-k l = let d = l.sizes.shape.d in
    let n = l.sizes.shape.n in
    let r = l.sizes.shape.r in
    Tested l.sizes.kappa (λ k. same d (times d n l.a_matrix k (z_at d n r l.sizes.kappa l.opening)) (sum (R d) r (λ i. (R d).mul (el d l.c i) (t_at d n r l.sizes.kappa l.opening i k)))) l.k l.all
