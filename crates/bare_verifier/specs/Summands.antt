-- The summands of the verifier's sums, as its loops form them.
use Rattle.std.specs.Prelude.{List, ℕ, ◌+◌, ℤ}
use Rattle.algebra.specs.Triangle.{pair}
use Rattle.ring.specs.Element.{R, el}
use Rattle.fold.specs.Entries.{aggregate_a}
use Rattle.bare.specs.Opening.{turn_at}

-- the mixed one times c_i and the own one times c_i², of elements e and e + 1 of turn i
unfoldable pub turn_summand : (d n r κ : ℕ) (c o : List ℤ) (e i : ℕ) → (R d).Carrier
turn_summand d n r κ c o e i =
    (R d).add ((R d).mul (turn_at d n r κ o e i) (el d c i)) ((R d).mul (turn_at d n r κ o (e + 1) i) ((R d).mul (el d c i) (el d c i)))

-- "a_ii·(own z of turn i)"
unfoldable pub diagonal_summand : (d n r K L κ : ℕ) (whole constant_terms ψ α δ o : List ℤ) (i : ℕ) → (R d).Carrier
diagonal_summand d n r K L κ whole constant_terms ψ α δ o i =
    (R d).mul (aggregate_a d n r K L whole constant_terms ψ α δ (pair r i i)) (turn_at d n r κ o 3 i)
