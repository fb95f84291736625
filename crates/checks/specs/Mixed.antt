-- The mixed sum Σ g_ii c_i² + 2 Σ_{i<j} g_ij c_i c_j, row by row: each summand once on the diagonal and twice off it.
use Rattle.std.specs.Prelude.{List, ℕ, zero, suc, ◌+◌, ◌-◌, ◌*◌, ◌<◌, ◌≤◌, length, ℤ}
use Rattle.algebra.specs.CommRing.{CommRing}
use Rattle.algebra.specs.Sum.{sum}
use Rattle.ring.specs.Element.{R, Degree, el}
use Rattle.residues.specs.Digits.{Base}
use Rattle.fold.specs.Sizes.{pairs}
use Rattle.fold.specs.Opening.{block, garbage_of}
use Rattle.fold.specs.Limits.{most_parts}

module _ (𝓡 : CommRing) where
  infixl 65 ◌⊕◌
  open 𝓡 use {Carrier, add as ◌⊕◌}

  -- once on the diagonal, twice at a distance from it
  unfoldable pub weighed : ℕ → Carrier → Carrier
  weighed zero x = x
  weighed (suc k) x = x ⊕ x

-- what the loops over a block of garbage digits need
pub record Garbage (d r b t place : ℕ) (o : List ℤ) : Type 0 where
  pub degree : Degree d
  pub base : Base b
  pub parts : r ≤ most_parts
  pub digits : 0 < t
  pub inside : (place + pairs r * t) * d ≤ length o

-- the summand at i and j = i + k, of the garbage element x
unfoldable pub mixed_at : (d : ℕ) (c : List ℤ) (i k : ℕ) → (R d).Carrier → (R d).Carrier
mixed_at d c i k x = weighed (R d) k ((R d).mul x ((R d).mul (el d c i) (el d c (i + k))))

module _ (d r b t place : ℕ) (c o : List ℤ) where
  unfoldable pub mixed_summand : ℕ → ℕ → (R d).Carrier
  mixed_summand i k = mixed_at d c i k (garbage_of d r b t (block d o place) i (i + k))

  unfoldable pub mixed_row : ℕ → (R d).Carrier
  mixed_row i = sum (R d) (r - i) (mixed_summand i)
