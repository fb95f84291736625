-- The functions of a fold by place, as loops form them: entry e of a function is its element at place e of the constraint, the pairs (i, j)
-- first and then the φ, part by part. Each is one sum, and the functions of Messages.antt are these (laws in EntryLaws.antt).
use Rattle.std.specs.Prelude.{List, ℕ, ◌+◌, ◌*◌, get_or, ℤ, pos}
use Rattle.algebra.specs.Sum.{sum}
use Rattle.algebra.specs.Conjugation.{conjugate}
use Rattle.residues.specs.Modulus.{Zq}
use Rattle.ring.specs.Element.{R, el, number}
use Rattle.fold.specs.Sizes.{pairs}
use Rattle.fold.specs.Statement.{whole_at, term_at}
use Rattle.fold.specs.Sizes.{five}

module _ (d n r : ℕ) where
  -- Σ_l ψ_kl f'_l at place e
  unfoldable pub term_entry : (L : ℕ) (constant_terms ψ : List ℤ) (k e : ℕ) → (R d).Carrier
  term_entry L constant_terms ψ k e = sum (R d) L (λ l. (R d).mul (number d (get_or ψ (k * L + l) (pos 0))) (el d (term_at d n r constant_terms l) e))

  -- Σ_j ω_kj row_j at element e of the witness
  unfoldable pub projection_entry : (w : ℕ) (projections ω : List ℤ) (k e : ℕ) → (R d).Carrier
  projection_entry w projections ω k e = sum (R d) w (λ j. (R d).mul (number d (get_or ω (k * w + j) (pos 0))) (el d projections (j * (r * n) + e)))

  -- f''_k at pair place e, and its φ at element e of the witness
  unfoldable pub second_a : (L : ℕ) (constant_terms ψ : List ℤ) (k e : ℕ) → (R d).Carrier
  second_a L constant_terms ψ k e = term_entry L constant_terms ψ k e

  unfoldable pub secondΦ : (L w : ℕ) (constant_terms projections ψ ω : List ℤ) (k e : ℕ) → (R d).Carrier
  secondΦ L w constant_terms projections ψ ω k e =
      (R d).add (term_entry L constant_terms ψ k (pairs r + e)) (conjugate Zq (projection_entry w projections ω k e))

  -- Σ_k α_k f_k at place e
  unfoldable pub whole_entry : (K : ℕ) (whole α : List ℤ) (e : ℕ) → (R d).Carrier
  whole_entry K whole α e = sum (R d) K (λ k. (R d).mul (el d α k) (el d (whole_at d n r whole k) e))

  -- the aggregate at pair place e, and its φ at element e of the witness
  unfoldable pub aggregate_a : (K L : ℕ) (whole constant_terms ψ α δ : List ℤ) (e : ℕ) → (R d).Carrier
  aggregate_a K L whole constant_terms ψ α δ e =
      (R d).add (whole_entry K whole α e) (sum (R d) five (λ k. (R d).mul (el d δ k) (second_a L constant_terms ψ k e)))

  unfoldable pub aggregateΦ : (K L w : ℕ) (whole constant_terms projections ψ ω α δ : List ℤ) (e : ℕ) → (R d).Carrier
  aggregateΦ K L w whole constant_terms projections ψ ω α δ e =
      (R d).add (whole_entry K whole α (pairs r + e)) (sum (R d) five (λ k. (R d).mul (el d δ k) (secondΦ L w constant_terms projections ψ ω k e)))
