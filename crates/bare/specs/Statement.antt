-- SPECIFICATION 14.2: "The statement is that of 3.1, with A of κ rows. A bound on z is lent beside it." w is the number of projection rows.
use Rattle.std.specs.Prelude.{List, ℕ, ℤ}
use Rattle.algebra.specs.DotProduct.{Function}
use Rattle.ring.specs.Element.{R}
use Rattle.fold.specs.Statement.{Relation, Draws}
use Rattle.fold.specs.Messages.{aggregate}

pub record BareStatement : Type 0 where
  pub relation : Relation
  pub w : ℕ
  pub κ : ℕ
  pub z_bound : ℕ
  pub A : List ℤ

-- the messages that the verifier takes beside the bare opening
pub record BareTranscript : Type 0 where
  pub p : List ℤ
  pub b'' : List ℤ

-- 14.3: "the aggregate is that of 4.4, with its a, φ and b"
module _ (𝓢 : BareStatement) (𝓓 : Draws) where
  open 𝓢 use {relation, w}
  open relation use {d, n, r, K, L, whole, constant_terms}
  open 𝓓 use {projections, ψ, ω, α, δ}

  abbrev pub bare_aggregate : Function (R d)
  bare_aggregate = aggregate d n r K L w whole constant_terms projections ψ ω α δ
