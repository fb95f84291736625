use Rattle.std.proofs.Common.{ℕ}
use Rattle.ring.specs.Product.{TwoColumns}
use Rattle.ring.specs.declared.product.ColumnPair.{ColumnPair}
use Rattle.ring.specs.Laws.ProductArrays.{Adding}
use Rattle.ring.proofs.product.add_pairs.Given as goal

abbrev pub invariant-loop-k : goal.invariant-loop-k
invariant-loop-k g l = (col : ℕ → ℕ)
    → ((start other : ℕ) (found : ColumnPair) → goal.F-post g l.pair start other found → TwoColumns col start other found.first found.second)
    → Adding l.d col l.initial.acc l.half l.k l.acc
