-- The left sides of checks 5 and 6 as their loops form them, and the pairs (i, i).
use Rattle.std.specs.Prelude.{◌≡◌, refl, List, ℕ, ◌+◌, ◌-◌, ◌*◌, ◌<◌, length, take, drop, ℤ}
use Rattle.std.proofs.Common.{sym, ap, add-one, arith}
use Rattle.integers.specs.Laws.ListLaws.{rest_all}
use Rattle.algebra.specs.Sum.{sum}
use Rattle.algebra.specs.Laws.SumLaws.{sum_cong}
use Rattle.algebra.specs.Triangle.{pair}
use Rattle.algebra.specs.Laws.TriangleLaws.{start-suc, pair-zero, pair-bound}
use Rattle.algebra.specs.DotProduct.{inner}
use Rattle.algebra.specs.Laws.DotProductLaws.{inner_cong}
use Rattle.ring.specs.Element.{R, el}
use Rattle.ring.specs.Laws.ElementPlaces.{el-drop}
use Rattle.fold.specs.Sizes.{pairs}
use Rattle.fold.specs.Messages.{aggregate}
use Rattle.fold.proofs.Laws.EntryLaws.{aggregate-a}
use Rattle.checks.specs.Relation.{linear_summand}
use Rattle.bare.specs.Opening.{z_place, z_at, turn_at}
use Rattle.bare_verifier.specs.Summands.{diagonal_summand}

-- z, read from its place on
pub linear_at : (d n r κ : ℕ) (φ : ℕ → ℕ → (R d).Carrier) (c o : List ℤ) {at : ℕ} → at ≡ z_place r κ * d
    → sum (R d) r (linear_summand d n φ c (take (length o - at) (drop at o)))
    ≡ sum (R d) r (λ i. (R d).mul (inner (R d) n (φ i) (z_at d n r κ o)) (el d c i))
unfolding linear_summand z_at
linear_at d n r κ φ c o {at} e =
    rw (rest_all o at, e)
    (sum_cong (R d) r _ _ (λ i _. ap (λ x. (R d).mul x (el d c i)) (inner_cong (R d) n (φ i) (φ i) _ _ (λ k _. refl) (λ k _. el-drop d o (z_place r κ) k))))

-- the diagonal of the aggregate's a
pub diagonal_at : (d n r K L w κ : ℕ) (whole constant_terms projections ψ ω α δ o : List ℤ)
    → sum (R d) r (diagonal_summand d n r K L κ whole constant_terms ψ α δ o)
    ≡ sum (R d) r (λ i. (R d).mul ((aggregate d n r K L w whole constant_terms projections ψ ω α δ).a i i) (turn_at d n r κ o 3 i))
unfolding diagonal_summand
diagonal_at d n r K L w κ whole constant_terms projections ψ ω α δ o =
    sum_cong (R d) r _ _ (λ i _. ap (λ x. (R d).mul x (turn_at d n r κ o 3 i))
    (sym (aggregate-a d n r L w constant_terms projections ψ ω K whole α δ i i)))

-- the pair after (i, i) on the diagonal, and how many pairs there are before it
pub diagonal_first : (r : ℕ) → 0 ≡ pair r 0 0
diagonal_first r = sym (pair-zero r)

pub diagonal_next : (r i q : ℕ) → i < r → q ≡ pair r i i → q + (r - i) ≡ pair r (i + 1) (i + 1)
unfolding pair
diagonal_next r i q h e = rw add-one (omega (arith, e, start-suc (λ k. r - k) i))

pub diagonal_below : (r i q : ℕ) → i < r → q ≡ pair r i i → q < pairs r
unfolding pairs
diagonal_below r i q h e = rw e (pair-bound r i i (omega arith) h)
