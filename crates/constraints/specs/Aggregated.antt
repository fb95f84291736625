-- The summands of the aggregate, and its φ from a row of five elements by value that holds the projected parts Σ_j ω_kj row_j.
--     second_rowΦ               the φ of f''_k
--     weighted_a, weightedΦ     δ_k f''_k at a place
--     aggregate_rowΦ            the φ of the aggregate
use Rattle.std.specs.Prelude.{List, [], ℕ, ◌+◌, get_or, ℤ}
use Rattle.algebra.specs.Sum.{sum}
use Rattle.algebra.specs.Conjugation.{conjugate}
use Rattle.residues.specs.Modulus.{Zq}
use Rattle.ring.specs.Element.{R, lift, el}
use Rattle.fold.specs.Sizes.{pairs, five}
use Rattle.fold.specs.Entries.{term_entry, second_a, whole_entry}

unfoldable pub weighted_a : (d n r L : ℕ) (constant_terms ψ δ : List ℤ) (e : ℕ) → ℕ → (R d).Carrier
weighted_a d n r L constant_terms ψ δ e k = (R d).mul (el d δ k) (second_a d n r L constant_terms ψ k e)

unfoldable pub second_rowΦ : (d n r L : ℕ) (constant_terms ψ : List ℤ) (projected : List (List ℤ)) (k e : ℕ) → (R d).Carrier
second_rowΦ d n r L constant_terms ψ projected k e =
    (R d).add (term_entry d n r L constant_terms ψ k (pairs r + e)) (conjugate Zq (lift d (get_or projected k [])))

unfoldable pub weightedΦ : (d n r L : ℕ) (constant_terms ψ δ : List ℤ) (projected : List (List ℤ)) (e : ℕ) → ℕ → (R d).Carrier
weightedΦ d n r L constant_terms ψ δ projected e k = (R d).mul (el d δ k) (second_rowΦ d n r L constant_terms ψ projected k e)

unfoldable pub aggregate_rowΦ : (d n r K L : ℕ) (whole constant_terms ψ α δ : List ℤ) (projected : List (List ℤ)) (e : ℕ) → (R d).Carrier
aggregate_rowΦ d n r K L whole constant_terms ψ α δ projected e =
    (R d).add (whole_entry d n r K whole α (pairs r + e)) (sum (R d) five (weightedΦ d n r L constant_terms ψ δ projected e))
