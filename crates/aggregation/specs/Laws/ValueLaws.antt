-- Laws of what Values.antt defines.
use Rattle.std.specs.Prelude.{◌≡◌, refl, List, ℕ, ◌+◌, ◌-◌, ◌*◌, ◌<◌, ◌≤◌, ℤ}
use Rattle.std.proofs.Common.{sym, ap, ap₂, ◌∙◌, mul-le-mul, add-one, arith}
use Rattle.integers.specs.Lists.{tab}
use Rattle.integers.specs.Flat.{flat}
use Rattle.integers.specs.Laws.FlatLaws.{flat_cong}
use Rattle.algebra.specs.DotProduct.{value}
use Rattle.algebra.specs.Triangle.{pair, pairs-count}
use Rattle.algebra.specs.Laws.TriangleLaws.{start_mono, pair_row, pair_end, pair-bound}
use Rattle.ring.specs.Element.{R, Degree, lift, el, coeffs, array}
use Rattle.fold.specs.Known.Facts.{Shaped}
use Rattle.fold.specs.Sizes.{pairs}
use Rattle.fold.specs.Statement.{part}
use Rattle.fold.specs.Messages.{elements, g, second, b''}
use Rattle.fold.specs.Entries.{second_a, secondΦ}
use Rattle.fold.proofs.Laws.EntryLaws.{second-value, el_inners}
use Rattle.constraints.specs.Laws.Rows.{row-entry}
use Rattle.fold.specs.Laws.SizeBounds.{pairs-bound}
use Rattle.aggregation.specs.Rows.{added, plus_product, Sums}
use Rattle.aggregation.specs.Laws.RowLaws.{by_element, sums-step}
use Rattle.aggregation.specs.Values.{pair_product, pair_summand, witness_summand}

unfoldable pub second_value : (d n r L w : ℕ) (constant_terms projections ψ ω s : List ℤ) (k : ℕ) → (R d).Carrier
second_value d n r L w constant_terms projections ψ ω s k = value (R d) r n (second d n r L w constant_terms projections ψ ω k) (part d n s)

-- ---- the pairs by place

-- part i's pairs stand from place pair r i i on
pub pair_along : (r i k : ℕ) → pair r i i + k ≡ pair r i (i + k)
unfolding pair
pair_along r i k = omega arith

pub pair-below : (r i k : ℕ) {at : ℕ} → at ≡ pair r i i → k < r - i → at + k < pairs r
unfolding pairs
pair-below r i k place h = omega (arith, place, pair_along r i k, pair-bound r i (i + k) (omega arith) (omega arith))

pub pair-room : (r i : ℕ) {at : ℕ} → at ≡ pair r i i → i < r → at + (r - i) ≤ pairs r
unfolding pair pairs pairs-count
pair-room r i place h = omega (arith, place, start_mono (λ k. r - k) i r h)

pub pair-after : (r i : ℕ) {at : ℕ} → at ≡ pair r i i → i < r → at + (r - i) ≡ pair r (i + 1) (i + 1)
pair-after r i {at} place h =
    let all : i + (r - i) ≡ r = omega arith in
    rw place (pair_along r i (r - i)) ∙ ap (pair r i) all ∙ pair_row r i ∙ ap (λ (m : ℕ). pair r m m) (sym (add-one i))

pub pair-summand : (d n r L : ℕ) (constant_terms ψ s : List ℤ) (i k : ℕ) {at : ℕ} → at ≡ pair r i i → k < r - i → (x : ℕ)
    → pair_summand d n r L constant_terms ψ s x (at + k) ≡ (R d).mul (second_a d n r L constant_terms ψ x (at + k)) (g d n s i (i + k))
unfolding pair_summand pair_product
pair-summand d n r L constant_terms ψ s i k {at} place h x =
    let there : at + k ≡ pair r i (i + k) = omega (arith, place, pair_along r i k) in
    let least : i ≤ i + k = omega arith in
    let below : i + k < r = omega arith in
    ap ((R d).mul (second_a d n r L constant_terms ψ x (at + k)))
    (ap (el d (flat r (λ i. elements d (r - i) (λ k. g d n s i (i + k))))) there ∙ el_inners d n r s i (i + k) least below)

-- ---- one turn of each loop

pub pairs-step : (d n r L : ℕ) (constant_terms ψ s : List ℤ) (i k : ℕ) {at : ℕ} {sums row next : List (List ℤ)} → d ≤ 64
    → at ≡ pair r i i → k < r - i
    → Sums d (pair_summand d n r L constant_terms ψ s) (at + k) sums
    → row ≡ tab 5 (λ x. array d (second_a d n r L constant_terms ψ x (at + k)))
    → next ≡ tab 5 (λ x. array d (plus_product d sums row (g d n s i (i + k)) x))
    → Sums d (pair_summand d n r L constant_terms ψ s) (at + (k + 1)) next
pairs-step d n r L constant_terms ψ s i k {at} small place h running is next =
    let more : at + k + 1 ≡ at + (k + 1) = omega arith in
    rw more at (sums-step (λ x. second_a d n r L constant_terms ψ x (at + k)) (g d n s i (i + k)) small running is
    (pair-summand d n r L constant_terms ψ s i k place h) next)

-- after the last part, all pairs
pub pairs-all : (d n r L : ℕ) (constant_terms ψ s : List ℤ) {at i : ℕ} {sums : List (List ℤ)} → at ≡ pair r i i → i ≡ r
    → Sums d (pair_summand d n r L constant_terms ψ s) at sums → Sums d (pair_summand d n r L constant_terms ψ s) (pairs r) sums
unfolding pairs
pairs-all d n r L constant_terms ψ s place all done =
    rw (pair_end r) at (rw (place, all) at done)

pub witness-step : (d n r L w : ℕ) (constant_terms projections ψ ω s : List ℤ) {e : ℕ} {sums row next : List (List ℤ)} {y : List ℤ} → d ≤ 64
    → Sums d (witness_summand d n r L w constant_terms projections ψ ω s) e sums
    → row ≡ tab 5 (λ k. array d (secondΦ d n r L w constant_terms projections ψ ω k e))
    → y ≡ array d (el d s e)
    → next ≡ tab 5 (λ k. array d (plus_product d sums row (lift d y) k))
    → Sums d (witness_summand d n r L w constant_terms projections ψ ω s) (e + 1) next
unfolding witness_summand
witness-step d n r L w constant_terms projections ψ ω s {e} {sums} {row} small running is element next =
    sums-step (λ k. secondΦ d n r L w constant_terms projections ψ ω k e) (el d s e) small running is (λ k. refl)
    (by_element d sums row (el d s e) small element next)

-- ---- the two sums together

pub values-end : (d n r L w : ℕ) (constant_terms projections ψ ω s : List ℤ) {quadratic linear : List (List ℤ)} {out : List ℤ} → Degree d
    → Sums d (pair_summand d n r L constant_terms ψ s) (pairs r) quadratic
    → Sums d (witness_summand d n r L w constant_terms projections ψ ω s) (r * n) linear
    → out ≡ elements d 5 (added d quadratic linear) → out ≡ b'' d n r L w constant_terms projections ψ ω s
unfolding b'' elements added pair_summand pair_product witness_summand
values-end d n r L w constant_terms projections ψ ω s degree pair_sums witness_sums out =
    out
    ∙ flat_cong 5 _ _ (λ k h. ap (coeffs d)
    (ap₂ (R d).add (row-entry d _ degree.small pair_sums.held k h) (row-entry d _ degree.small witness_sums.held k h)
    ∙ sym (second-value d n r L w constant_terms projections ψ ω s (flat r (λ i. elements d (r - i) (λ k. g d n s i (i + k)))) k
    (λ i j a b. el_inners d n r s i j a b))))

-- the elements of all pairs have room in a local list
pub pairs-room : {d n r : ℕ} → Shaped d n r → pairs r * d ≤ 8704
pairs-room shaped = mul-le-mul (pairs-bound _ shaped.parts-small) shaped.degree.small
