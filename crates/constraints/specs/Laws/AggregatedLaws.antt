-- Laws of what Aggregated.antt defines.
use Rattle.std.specs.Prelude.{◌≡◌, refl, List, ℕ, ◌+◌, ◌*◌, ◌≤◌, ◌<◌, length, ℤ}
use Rattle.std.proofs.Math.Path.{sym, ap}
use Rattle.std.proofs.Common.{ap₂, ◌∙◌, zero-add, mul-le-mul_right, arith}
use Rattle.integers.specs.Lists.{tab}
use Rattle.integers.specs.Laws.ListLaws.{tab_cong}
use Rattle.algebra.specs.Sum.{sum}
use Rattle.algebra.specs.Laws.SumLaws.{sum_cong}
use Rattle.algebra.specs.Conjugation.{conjugate}
use Rattle.residues.specs.Modulus.{Zq}
use Rattle.ring.specs.Element.{R, Degree, lift, el, array}
use Rattle.ring.specs.Laws.ElementLaws.{lift-array}
use Rattle.fold.specs.Sizes.{pairs, function_size}
use Rattle.fold.specs.Statement.{whole_constant}
use Rattle.fold.specs.Messages.{aggregate, aggregate_constant}
use Rattle.fold.specs.Sizes.{five}
use Rattle.fold.proofs.Laws.EntryLaws.{aggregate-φ}
use Rattle.fold.specs.Entries.{term_entry, projection_entry, secondΦ, whole_entry, aggregate_a, aggregateΦ}
use Rattle.constraints.specs.Laws.Rows.{row-entry}
use Rattle.constraints.specs.Aggregated.{weighted_a, second_rowΦ, weightedΦ, aggregate_rowΦ}

module _ (d : ℕ) (degree : Degree d) (x y : (R d).Carrier) {a b c : List ℤ} (is : a ≡ array d x) (by : b ≡ array d y) where
  pub values-sum : c ≡ array d ((R d).add (lift d a) (lift d b)) → c ≡ array d ((R d).add x y)
  values-sum e = e ∙ rw (is, by, lift-array d x degree.small, lift-array d y degree.small) refl

  pub values-product : c ≡ array d ((R d).mul (lift d a) (lift d b)) → c ≡ array d ((R d).mul x y)
  values-product e = e ∙ rw (is, by, lift-array d x degree.small, lift-array d y degree.small) refl

pub δ-place : (d : ℕ) (δ : List ℤ) → length δ ≡ 5 * d → {k : ℕ} → k < 5 → k * d + d ≤ length δ
δ-place d δ e {k} h = omega (arith, e, mul-le-mul_right d h)

pub second-φ-end : (d n r L : ℕ) (constant_terms ψ : List ℤ) (k e : ℕ) (projected : List ℤ) {own turned out : List ℤ} → Degree d
    → own ≡ array d (term_entry d n r L constant_terms ψ k (pairs r + e))
    → turned ≡ array d (conjugate Zq (lift d projected))
    → out ≡ array d ((R d).add (lift d own) (lift d turned))
    → out ≡ array d ((R d).add (term_entry d n r L constant_terms ψ k (pairs r + e)) (conjugate Zq (lift d projected)))
second-φ-end d n r L constant_terms ψ k e projected degree is by sum = values-sum d degree _ _ is by sum

-- ---- the row of the projected parts

module _ (d n r L w : ℕ) (constant_terms projections ψ ω : List ℤ) (e : ℕ) {projected : List (List ℤ)} (small : d ≤ 64)
    (held : projected ≡ tab 5 (λ k. array d (projection_entry d n r w projections ω k e))) where
  second-row-φ : (k : ℕ) → k < 5 → second_rowΦ d n r L constant_terms ψ projected k e ≡ secondΦ d n r L w constant_terms projections ψ ω k e
  unfolding second_rowΦ secondΦ
  second-row-φ k h =
      ap (λ u. (R d).add (term_entry d n r L constant_terms ψ k (pairs r + e)) (conjugate Zq u))
      (row-entry d (λ i. projection_entry d n r w projections ω i e) small held k h)

  pub second-row : {out : List (List ℤ)} → out ≡ tab 5 (λ k. array d (second_rowΦ d n r L constant_terms ψ projected k e))
      → out ≡ tab 5 (λ k. array d (secondΦ d n r L w constant_terms projections ψ ω k e))
  second-row is = is ∙ tab_cong 5 _ _ (λ k h. ap (array d) (second-row-φ k h))

  -- element y of φ_i, where e is its place
  pub aggregate-row : (K : ℕ) (whole α δ : List ℤ) (i y : ℕ) {out : List ℤ} → e ≡ i * n + y
      → out ≡ array d (aggregate_rowΦ d n r K L whole constant_terms ψ α δ projected e)
      → out ≡ array d ((aggregate d n r K L w whole constant_terms projections ψ ω α δ).φ i y)
  unfolding aggregate_rowΦ weightedΦ aggregateΦ
  aggregate-row K whole α δ i y place is =
      is
      ∙ ap (array d) (ap ((R d).add (whole_entry d n r K whole α (pairs r + e))) (sum_cong (R d) five _ _ (λ k h. ap ((R d).mul (el d δ k)) (second-row-φ k h)))
      ∙ ap (aggregateΦ d n r K L w whole constant_terms projections ψ ω α δ) place
      ∙ sym (aggregate-φ d n r L w constant_terms projections ψ ω K whole α δ i y))

-- ---- the aggregate

pub aggregate-a-end : (d n r K L : ℕ) (whole constant_terms ψ α δ : List ℤ) (e : ℕ) {wholes seconds out : List ℤ} → Degree d
    → wholes ≡ array d (whole_entry d n r K whole α e)
    → seconds ≡ array d (sum (R d) five (weighted_a d n r L constant_terms ψ δ e))
    → out ≡ array d ((R d).add (lift d wholes) (lift d seconds)) → out ≡ array d (aggregate_a d n r K L whole constant_terms ψ α δ e)
unfolding aggregate_a weighted_a
aggregate-a-end d n r K L whole constant_terms ψ α δ e degree is by sum = values-sum d degree _ _ is by sum

pub aggregate-φ-end : (d n r K L : ℕ) (whole constant_terms ψ α δ : List ℤ) (projected : List (List ℤ)) (e : ℕ) {wholes seconds out : List ℤ} → Degree d
    → wholes ≡ array d (whole_entry d n r K whole α (pairs r + e))
    → seconds ≡ array d (sum (R d) five (weightedΦ d n r L constant_terms ψ δ projected e))
    → out ≡ array d ((R d).add (lift d wholes) (lift d seconds)) → out ≡ array d (aggregate_rowΦ d n r K L whole constant_terms ψ α δ projected e)
unfolding aggregate_rowΦ
aggregate-φ-end d n r K L whole constant_terms ψ α δ projected e degree is by sum = values-sum d degree _ _ is by sum

-- the constants stand at place function_size
pub constant-end : (d n r K : ℕ) (whole α δ b'' : List ℤ) {wholes seconds out : List ℤ} → Degree d
    → wholes ≡ array d (whole_entry d n r K whole α (function_size n r))
    → seconds ≡ array d (sum (R d) 5 (λ k. (R d).mul (el d δ (0 + k)) (el d b'' (0 + k))))
    → out ≡ array d ((R d).add (lift d wholes) (lift d seconds)) → out ≡ array d (aggregate_constant d n r K whole α δ b'')
unfolding aggregate_constant whole_entry whole_constant
constant-end d n r K whole α δ b'' degree is by sum =
    values-sum d degree _ _ is
    (by ∙ ap (array d) (sum_cong (R d) 5 _ _ (λ k _. ap₂ (λ i j. (R d).mul (el d δ i) (el d b'' j)) (zero-add k) (zero-add k)))) sum
