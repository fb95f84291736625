-- Rows of five elements by value, one for each second function: `tab 5 (λ k. array d (x k))` holds the elements x k.
--     row-entry               an entry of a row, as an element
--     row-weighted            Σ_k δ_k x_k from a row
use Rattle.std.specs.Prelude.{◌≡◌, List, [], ℕ, ◌≤◌, ◌<◌, get_or, ℤ}
use Rattle.std.proofs.Common.{ap, ◌∙◌}
use Rattle.integers.specs.Lists.{tab}
use Rattle.integers.specs.Laws.ListLaws.{get_d_tab}
use Rattle.algebra.specs.Sum.{sum}
use Rattle.algebra.specs.Laws.SumLaws.{sum_cong}
use Rattle.ring.specs.Element.{R, lift, el, array}
use Rattle.ring.specs.Laws.ElementLaws.{lift-array}
use Rattle.fold.specs.Sizes.{five}

-- an entry of a row, as an element
pub row-entry : (d : ℕ) (x : ℕ → (R d).Carrier) {row : List (List ℤ)} → d ≤ 64 → row ≡ tab 5 (λ k. array d (x k)) → (k : ℕ) → k < 5
    → lift d (get_or row k []) ≡ x k
row-entry d x small held k h =
    ap (λ (xs : List (List ℤ)). lift d (get_or xs k [])) held ∙ ap (lift d) (get_d_tab 5 (λ k. array d (x k)) k [] h) ∙ lift-array d (x k) small

-- Σ_k δ_k x_k
pub row-weighted : (d : ℕ) (δ : List ℤ) (x : ℕ → (R d).Carrier) {row : List (List ℤ)} → d ≤ 64 → row ≡ tab 5 (λ k. array d (x k))
    → sum (R d) 5 (λ k. (R d).mul (el d δ k) (lift d (get_or row k []))) ≡ sum (R d) five (λ k. (R d).mul (el d δ k) (x k))
row-weighted d δ x small held = sum_cong (R d) 5 _ _ (λ k h. ap ((R d).mul (el d δ k)) (row-entry d x small held k h))
