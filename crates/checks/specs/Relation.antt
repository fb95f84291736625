-- The summands of checks 7 and 8 as their loops add them.
use Rattle.std.specs.Prelude.{List, ℕ, ℤ}
use Rattle.algebra.specs.DotProduct.{inner}
use Rattle.ring.specs.Element.{R, el}
use Rattle.fold.specs.declared.Sizes.{Sizes}
use Rattle.fold.specs.Entries.{aggregate_a}
use Rattle.fold.specs.Opening.{block}
use Rattle.checks.specs.Places.{garbage_at}

-- <φ_i, z> c_i
unfoldable pub linear_summand : (d n : ℕ) (φ : ℕ → ℕ → (R d).Carrier) (c z : List ℤ) → ℕ → (R d).Carrier
linear_summand d n φ c z i = (R d).mul (inner (R d) n (φ i) (el d z)) (el d c i)

module _ (s : Sizes) (whole constant_terms ψ α δ o : List ℤ) where
  -- the aggregate's a times g, at pair number q
  unfoldable pub relation_summand : ℕ → ℕ → (R s.shape.d).Carrier
  relation_summand place q =
      (R s.shape.d).mul (aggregate_a s.shape.d s.shape.n s.shape.r s.k s.l whole constant_terms ψ α δ q) (garbage_at s.shape.d s.b2 s.t2 (block
      s.shape.d o place) q)
