-- Σ φ_i c_i by element of z, and the step that adds one part to the sums.
use Rattle.std.specs.Prelude.{List, ℕ, ℤ}
use Rattle.algebra.specs.Sum.{sum}
use Rattle.ring.specs.Element.{R, el}

-- over the first m parts, at element k
unfoldable pub folded_sum : (d m : ℕ) (φ : ℕ → ℕ → (R d).Carrier) (c : List ℤ) → ℕ → (R d).Carrier
folded_sum d m φ c k = sum (R d) m (λ i. (R d).mul (φ i k) (el d c i))

-- x_k + y_k u, where two lists hold the x_k and the y_k
unfoldable pub plus_multiple : (d : ℕ) (xs ys : List ℤ) (u : (R d).Carrier) → ℕ → (R d).Carrier
plus_multiple d xs ys u k = (R d).add (el d xs k) ((R d).mul (el d ys k) u)
