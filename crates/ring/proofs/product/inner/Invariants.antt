use Rattle.std.proofs.Common.{◌≡◌, length}
use Rattle.algebra.specs.Sum.{sum}
use Rattle.ring.specs.Element.{R}
use Rattle.ring.specs.Product.{Holds}
use Rattle.ring.specs.Laws.ProductLaws.{pair}
use Rattle.ring.specs.Laws.Loops.{Counted}
use Rattle.ring.proofs.product.inner.Given as goal

abbrev pub invariant-loop-k : goal.invariant-loop-k
invariant-loop-k l = (length l.a ≡ 64) × (length l.e ≡ 129) × Counted l.n (λ k. Holds l.d (sum (R l.d) k (pair l.d l.u l.p l.v l.s)) k l.acc) l.k
