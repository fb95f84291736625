-- Laws of what Rows.antt defines.
use Rattle.std.specs.Prelude.{◌≡◌, refl, true, List, [], ℕ, ◌+◌, ◌≤◌, ◌<◌, get_or, replicate, ℤ, pos}
use Rattle.std.proofs.Common.{sym, ap, ap₂, ◌∙◌}
use Rattle.integers.specs.Lists.{tab}
use Rattle.integers.specs.Laws.ListLaws.{tab_cong, tab_const}
use Rattle.algebra.specs.Laws.RingLaws.{zero-mul}
use Rattle.algebra.specs.Sum.{sum}
use Rattle.algebra.specs.Laws.SumLaws.{sum-one-more}
use Rattle.ring.specs.Element.{R, lift, array, every, same}
use Rattle.ring.specs.Laws.ElementLaws.{lift-array}
use Rattle.ring.specs.Laws.ElementArrays.{array-zero}
use Rattle.ring.specs.Laws.ElementEquality.{every_true, same_true}
use Rattle.constraints.specs.Laws.Rows.{row-entry}
use Rattle.aggregation.specs.Rows.{plus_product, Canonical, Sums}

pub canonical : {d : ℕ} (x : ℕ → (R d).Carrier) {row : List (List ℤ)} → d ≤ 64 → row ≡ tab 5 (λ k. array d (x k)) → Canonical d row
canonical {d} x {row} small held =
    record { is = held ∙ tab_cong 5 (λ k. array d (x k)) _ (λ k h. ap (array d) (sym (row-entry d x small held k h))) }

pub plus-product-end : (d : ℕ) (sums row : List (List ℤ)) (y : List ℤ) (k : ℕ) {product more : List ℤ} → d ≤ 64
    → product ≡ array d ((R d).mul (lift d (get_or row k [])) (lift d y))
    → more ≡ array d ((R d).add (lift d (get_or sums k [])) (lift d product)) → more ≡ array d (plus_product d sums row (lift d y) k)
unfolding plus_product
plus-product-end d sums row y k small is more =
    more ∙ rw (is, lift-array d ((R d).mul (lift d (get_or row k [])) (lift d y)) small) refl

pub zero_row : (d : ℕ) (sums row : List (List ℤ)) (y : (R d).Carrier) → Canonical d sums
    → every 5 (λ k. same d (lift d (get_or row k [])) (R d).zero) ≡ true → sums ≡ tab 5 (λ k. array d (plus_product d sums row y k))
unfolding plus_product
zero_row d sums row y whole all = whole.is ∙ tab_cong 5 _ _ (λ k h. ap (array d) (sym (nothing k h)))
  where
    nothing : (k : ℕ) → k < 5 → (R d).add (lift d (get_or sums k [])) ((R d).mul (lift d (get_or row k [])) y) ≡ lift d (get_or sums k [])
    nothing k h =
        ap (λ (u : (R d).Carrier). (R d).add (lift d (get_or sums k [])) ((R d).mul u y))
        (same_true d (lift d (get_or row k [])) (R d).zero (every_true 5 _ all k h))
        ∙ ap ((R d).add (lift d (get_or sums k []))) (zero-mul (R d) y)
        ∙ (R d).add-zero (lift d (get_or sums k []))

-- the products by an element that a call returned
pub by_element : (d : ℕ) (sums row : List (List ℤ)) (y : (R d).Carrier) {next : List (List ℤ)} {inner : List ℤ} → d ≤ 64 → inner ≡ array d y
    → next ≡ tab 5 (λ k. array d (plus_product d sums row (lift d inner) k)) → next ≡ tab 5 (λ k. array d (plus_product d sums row y k))
by_element d sums row y small is next = next ∙ rw (is, lift-array d y small) refl

pub sums-start : (d : ℕ) (F : ℕ → ℕ → (R d).Carrier) → Sums d F 0 (replicate 5 (replicate 64 (pos 0)))
unfolding sum
sums-start d F = record { held = sym (tab_const 5 (replicate 64 (pos 0))) ∙ tab_cong 5 _ _ (λ k _. sym (array-zero d)) }

-- a row whose entries times y are the summands
pub sums-step : {d : ℕ} {F : ℕ → ℕ → (R d).Carrier} {e : ℕ} {sums row next : List (List ℤ)} (a : ℕ → (R d).Carrier) (y : (R d).Carrier) → d ≤ 64
    → Sums d F e sums → row ≡ tab 5 (λ k. array d (a k)) → ((k : ℕ) → F k e ≡ (R d).mul (a k) y)
    → next ≡ tab 5 (λ k. array d (plus_product d sums row y k)) → Sums d F (e + 1) next
unfolding plus_product
sums-step {d} {F} {e} {sums} {row} a y small running held is next =
    record { held = next ∙ tab_cong 5 _ _ (λ k h. ap (array d) (summand k h)) }
  where
    summand : (k : ℕ) → k < 5
        → (R d).add (lift d (get_or sums k [])) ((R d).mul (lift d (get_or row k [])) y) ≡ sum (R d) (e + 1) (F k)
    summand k h =
        ap₂ (R d).add (row-entry d (λ k. sum (R d) e (F k)) small running.held k h)
        (ap (λ (u : (R d).Carrier). (R d).mul u y) (row-entry d a small held k h) ∙ sym (is k))
        ∙ sym (sum-one-more (R d) e (F k))
