-- The values of the second functions as the loops of message 3 form them: one sum over the pairs and one over the witness.
--     pair_product                the products <s_i, s_j>, by place
--     pair_summand, witness_summand      the summands of the two sums
--     second_value                the value of f''_k
use Rattle.std.specs.Prelude.{List, ℕ, ◌+◌, ◌-◌, ℤ}
use Rattle.integers.specs.Flat.{flat}
use Rattle.ring.specs.Element.{R, el}
use Rattle.fold.specs.Messages.{elements, g}
use Rattle.fold.specs.Entries.{second_a, secondΦ}

unfoldable pub pair_product : (d n r : ℕ) → List ℤ → ℕ → (R d).Carrier
pair_product d n r s = el d (flat r (λ i. elements d (r - i) (λ k. g d n s i (i + k))))

unfoldable pub pair_summand : (d n r L : ℕ) (constant_terms ψ s : List ℤ) (k : ℕ) → ℕ → (R d).Carrier
pair_summand d n r L constant_terms ψ s k e = (R d).mul (second_a d n r L constant_terms ψ k e) (pair_product d n r s e)

unfoldable pub witness_summand : (d n r L w : ℕ) (constant_terms projections ψ ω s : List ℤ) (k : ℕ) → ℕ → (R d).Carrier
witness_summand d n r L w constant_terms projections ψ ω s k e = (R d).mul (secondΦ d n r L w constant_terms projections ψ ω k e) (el d s e)
