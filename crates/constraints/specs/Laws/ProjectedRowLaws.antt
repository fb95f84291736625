-- Laws of what ProjectedRows.antt defines.
use Rattle.std.specs.Prelude.{◌≡◌, List, length, replicate, ℤ, ◌+ℤ◌, ◌*ℤ◌}
use Rattle.std.proofs.Math.Path.{refl, sym, ap, ap₂}
use Rattle.std.proofs.Common.{◌∙◌, mul-le-mul, arith, to_z, of_z}
use Prim.Native.Nat.{ℕ, zero, suc, ◌+◌, ◌*◌, ◌/◌, ◌^◌, ◌≤◌, ◌<◌}
use Rattle.std.proofs.Math.Nat.{mul-le-mul_right}
use Rattle.std.proofs.Math.Numerals.{add-one}
use Rattle.std.proofs.Math.ListN.{get_or}
use Rattle.std.proofs.lemmas.List.{get_or-replicate}
use Rattle.std.proofs.Math.IntN.{pos}
use Rattle.std.specs.Int.Signed.{mag}
use Rattle.std.specs.Int.{w32}
use Rattle.integers.specs.Laws.Bridge.{zarith, add_pn}
use Rattle.integers.specs.Lists.{tab, upto}
use Rattle.integers.specs.Laws.ListLaws.{tab_cong}
use Rattle.algebra.specs.Sum.{sum}
use Rattle.algebra.specs.Polynomial.{coeff}
use Rattle.algebra.specs.Laws.PolynomialLaws.{coeff-zero, coeff-add}
use Rattle.algebra.specs.Laws.ConstantLaws.{coeff-constant-mul}
use Rattle.residues.specs.Modulus.{Zq, red, cent, centred}
use Rattle.residues.proofs.Laws.ModulusLaws.{red-zero, red-add, red-mul, cent-red}
use Rattle.residues.proofs.Laws.Words.{word}
use Rattle.ring.specs.Element.{R, el, array, number}
use Rattle.ring.specs.Laws.ElementPlaces.{coeff-el}
use Rattle.ring.specs.Laws.ElementArrays.{array-fill}
use Rattle.fold.specs.Refusals.{projection_length}
use Rattle.fold.specs.Entries.{projection_entry}
use Rattle.constraints.specs.Known.Facts.{ProjectionFacts}
use Rattle.constraints.specs.Laws.SizeLaws.{witness_small}
use Rattle.constraints.specs.Accumulator.{SmallFive, AddedFive}
use Rattle.constraints.specs.Laws.AccumulatorLaws.{Turning, turning_step}
use Rattle.constraints.specs.RowGroups.{Coded, four_sum, WeightedSum, OmegaSums, omega_sum_count}
use Rattle.constraints.specs.ProjectedRows.{partial, Summed}
use Rattle.fold.specs.Limits.{most_projections}

pub summed_start : (d m w : ℕ) (projections ω : List ℤ) (e : ℕ) → d ≤ 64 → Summed d m w projections ω e 0 (replicate 320 (pos 0))
unfolding partial
summed_start d m w projections ω e small =
    record {
      size = refl;
      cell = λ y k h l.
          record { value = get_or-replicate 320 (y * 5 + k) (pos 0) (pos 0) (omega (arith, h, l, small)); small = omega arith };
    }

module _ (d m w : ℕ) (projections ω : List ℤ) (e : ℕ) where
  pub turning_start : {j : ℕ} (more : ℕ) {acc : List ℤ} → Summed d m w projections ω e j acc
      → Turning d (partial d m w projections ω e j) (partial d m w projections ω e (j + more)) j more 0 acc
  turning_start more summed =
      record {
        within = omega arith;
        size = summed.size;
        done = λ z k l b. let no : ⊥ = omega arith in absurd no;
        left = λ z k l b f. summed.cell z k b f;
      }

  pub turning_end : {j more y : ℕ} {acc : List ℤ} → Turning d (partial d m w projections ω e j) (partial d m w projections ω e (j + more)) j more y acc
      → d ≤ y → Summed d m w projections ω e (j + more) acc
  turning_end turning h =
      record { size = turning.size; cell = λ y k l b. turning.done y k (omega (arith, l, h)) b }

  -- one row more
  pub partial-one : (j y k : ℕ) → partial d m w projections ω e j y k +ℤ (get_or ω (k * w + j) (pos 0) *ℤ get_or projections ((j * m + e) * d + y) (pos 0))
      ≡ partial d m w projections ω e (j + 1) y k
  unfolding partial
  partial-one j y k = rw add-one refl

  -- four rows more, by the table
  pub partial-four : (g y k : ℕ) {c : ℕ} {s : ℤ} → WeightedSum ω (k * w + g * 4) c s
      → Coded c (get_or projections ((g * 4 * m + e) * d + y) (pos 0)) (get_or projections ((g * 4 * m + e) * d + y + m * d) (pos 0))
      (get_or projections ((g * 4 * m + e) * d + y + m * d + m * d) (pos 0)) (get_or projections ((g * 4 * m + e) * d + y + m * d + m * d + m * d) (pos 0))
      → partial d m w projections ω e (g * 4) y k +ℤ s ≡ partial d m w projections ω e (g * 4 + 4) y k
  unfolding four_sum
  partial-four g y k {c} {s} weighted coded =
      let j = g * 4 in
      let at = (j * m + e) * d + y in
      let step = m * d in
      let p = partial d m w projections ω e j y k in
      let a = get_or ω (k * w + j) (pos 0) *ℤ get_or projections at (pos 0) in
      let b = get_or ω (k * w + j + 1) (pos 0) *ℤ get_or projections (at + step) (pos 0) in
      let f = get_or ω (k * w + j + 2) (pos 0) *ℤ get_or projections (at + step + step) (pos 0) in
      let h = get_or ω (k * w + j + 3) (pos 0) *ℤ get_or projections (at + step + step + step) (pos 0) in
      let sum : s ≡ pos 0 +ℤ a +ℤ b +ℤ f +ℤ h =
      weighted.value ∙ rw (coded.first, coded.second, coded.third, coded.fourth) refl
      in
      rw sum (five-sums p a b f h) ∙ sym (four-rows y k j)
    where
      five-sums : (p a b f h : ℤ) → p +ℤ (pos 0 +ℤ a +ℤ b +ℤ f +ℤ h) ≡ p +ℤ a +ℤ b +ℤ f +ℤ h
      five-sums p a b f h = omega (
        zarith,
        add_pn p (pos 0 +ℤ a +ℤ b +ℤ f +ℤ h),
        add_pn (pos 0 +ℤ a +ℤ b +ℤ f) h,
        add_pn (pos 0 +ℤ a +ℤ b) f,
        add_pn (pos 0 +ℤ a) b,
        add_pn (pos 0) a,
        add_pn p a,
        add_pn (p +ℤ a) b,
        add_pn (p +ℤ a +ℤ b) f,
        add_pn (p +ℤ a +ℤ b +ℤ f) h,
      )

      next : (y k j i a p : ℕ) → j ≡ i + 1 → a ≡ k * w + i → p ≡ (i * m + e) * d + y
          → partial d m w projections ω e j y k ≡ partial d m w projections ω e i y k +ℤ (get_or ω a (pos 0) *ℤ get_or projections p (pos 0))
      next y k j i a p q h l = rw (q, h, l) (sym (partial-one i y k))

      four-rows : (y k j : ℕ) → partial d m w projections ω e (j + 4) y k
          ≡ partial d m w projections ω e j y k
          +ℤ (get_or ω (k * w + j) (pos 0) *ℤ get_or projections ((j * m + e) * d + y) (pos 0))
          +ℤ (get_or ω (k * w + j + 1) (pos 0) *ℤ get_or projections ((j * m + e) * d + y + m * d) (pos 0))
          +ℤ (get_or ω (k * w + j + 2) (pos 0) *ℤ get_or projections ((j * m + e) * d + y + m * d + m * d) (pos 0))
          +ℤ (get_or ω (k * w + j + 3) (pos 0) *ℤ get_or projections ((j * m + e) * d + y + m * d + m * d + m * d) (pos 0))
      four-rows y k j =
          let at = (j * m + e) * d + y in
          let step = m * d in
          rw (
            next y k (j + 4) (j + 3) (k * w + j + 3) (at + step + step + step) (omega arith) (omega arith) (omega arith),
            next y k (j + 3) (j + 2) (k * w + j + 2) (at + step + step) (omega arith) (omega arith) (omega arith),
            next y k (j + 2) (j + 1) (k * w + j + 1) (at + step) (omega arith) (omega arith) (omega arith),
            ← (partial-one j y k),
          ) refl

  -- modulo q they are the coefficients of the weighted sum
  partial-red : (j y k : ℕ) → y < d
      → red (partial d m w projections ω e j y k)
      ≡ coeff Zq (sum (R d) j (λ i. (R d).mul (number d (get_or ω (k * w + i) (pos 0))) (el d projections (i * m + e)))) y
  unfolding partial sum number
  partial-red zero y k l = red-zero ∙ sym (coeff-zero Zq d y)
  partial-red (suc j) y k l =
      let c = get_or ω (k * w + j) (pos 0) in
      let x = get_or projections ((j * m + e) * d + y) (pos 0) in
      red-add (partial d m w projections ω e j y k) (c *ℤ x)
      ∙ ap₂ Zq.add (partial-red j y k l)
      (red-mul c x
      ∙ ap (Zq.mul (red c)) (sym (coeff-el d projections (j * m + e) y l))
      ∙ sym (coeff-constant-mul Zq (red c) (el d projections (j * m + e)) y))
      ∙ sym (coeff-add Zq _ _ y)

  summed_element : {acc : List ℤ} → Summed d m w projections ω e w acc → (k : ℕ) → k < 5
      → tab 64 (upto d (λ y. centred (get_or acc (y * 5 + k) (pos 0))) (pos 0))
      ≡ array d (sum (R d) w (λ i. (R d).mul (number d (get_or ω (k * w + i) (pos 0))) (el d projections (i * m + e))))
  summed_element {acc} summed k h =
      sym (array-fill d _ _ (λ y l.
      ap cent (sym (ap red (summed.cell y k l h).value ∙ partial-red w y k l)) ∙ cent-red (get_or acc (y * 5 + k) (pos 0))))

-- the elements of the five functions
pub row-end : (d n r w : ℕ) (projections ω : List ℤ) (e : ℕ) {acc : List ℤ} → Summed d (r * n) w projections ω e w acc
    → tab 5 (λ k. tab 64 (upto d (λ y. centred (get_or acc (y * 5 + k) (pos 0))) (pos 0)))
    ≡ tab 5 (λ k. array d (projection_entry d n r w projections ω k e))
unfolding projection_entry
row-end d n r w projections ω e summed = tab_cong 5 _ _ (λ k h. summed_element d (r * n) w projections ω e summed k h)

module _ {d n r w : ℕ} {projections ω : List ℤ} (facts : ProjectionFacts d n r w projections ω) where
  pub step_small : r * n * d ≤ 262144
  step_small = mul-le-mul (witness_small facts.shaped) facts.shaped.degree.small

  -- element e of row j
  pub element-small : {j e : ℕ} → j < w → e < r * n → (j * (r * n) ≤ 1048576) × (j * (r * n) + e ≤ 1052672) × ((j * (r * n) + e) * d ≤ 67371008)
  element-small {j} {e} h l =
      let small = witness_small facts.shaped in
      let row : j ≤ 256 = omega (arith, h, facts.row_count) in
      let before : j * (r * n) ≤ 256 * 4096 = mul-le-mul row small in
      let element : j * (r * n) + e ≤ 1052672 = omega (arith, before, l, small) in
      let at : (j * (r * n) + e) * d ≤ 1052672 * 64 = mul-le-mul element facts.shaped.degree.small in
      (omega (arith, before), element, omega (arith, at))

  pub element-fits : {j e : ℕ} → j < w → e < r * n → (j * (r * n) + e) * d + d ≤ length projections
  unfolding projection_length
  element-fits {j} {e} h l = omega (arith, facts.projections-length, mul-le-mul_right d l, mul-le-mul_right (r * n * d) h)

  pub element_place : {j e y : ℕ} → j < w → e < r * n → y < d → (j * (r * n) + e) * d + y < length projections
  element_place {j} {e} {y} h l b = omega (arith, b, element-fits {j = j} {e = e} h l)

  -- the rows of group g
  pub group-row : {g : ℕ} → g < w / 4 → g * 4 < w
  group-row h = omega (arith, h)

  pub group-place : {g e : ℕ} → g < w / 4 → e < r * n → (g * 4 * (r * n) + e) * d + d + r * n * d + r * n * d + r * n * d ≤ length projections
  group-place {g} {e} h l =
      let row : g * 4 + 3 < w = omega (arith, h) in
      omega (arith, element-fits {j = g * 4 + 3} row l)

pub weight-place : (w k j : ℕ) → k < 5 → j < w → w ≤ most_projections → (k * w ≤ 1024) × (k * w + j < 5 * w)
weight-place w k j h l small = (omega (arith, mul-le-mul_right w h, small), omega (arith, mul-le-mul_right w h, l))

pub table-place : {w : ℕ} {ω omega_sums : List ℤ} → OmegaSums w ω omega_sums → w ≤ most_projections → {g c : ℕ} → g < w / 4 → c < 81
    → ((g * 81 + c) * 5 + 5 ≤ omega_sum_count) × SmallFive 8589934592 omega_sums ((g * 81 + c) * 5)
table-place table small {g} {c} h l =
    (omega (arith, small, h, l), record { small = λ k b. (table.entry g c k h l b).small })

module _ (d m w : ℕ) (projections ω : List ℤ) (e : ℕ) where
  pub row_step : {j y : ℕ} {acc new : List ℤ} → Turning d (partial d m w projections ω e j) (partial d m w projections ω e (j + 1)) j 1 y acc → y < d
      → mag (get_or projections ((j * m + e) * d + y) (pos 0)) < 2 ^ 31
      → AddedFive 2147483648 (λ k. get_or ω (k * w + j) (pos 0) *ℤ to_z w32 (of_z w32 (get_or projections ((j * m + e) * d + y) (pos 0)))) (y * 5) acc 5 new
      → Turning d (partial d m w projections ω e j) (partial d m w projections ω e (j + 1)) j 1 (y + 1) new
  row_step {j} {y} turning h read added =
      turning_step turning h added
      (λ k l. rw (word (get_or projections ((j * m + e) * d + y) (pos 0)) read) (partial-one d m w projections ω e j y k))

  pub group-step : {omega_sums : List ℤ} → OmegaSums w ω omega_sums → {g c y : ℕ} {acc new : List ℤ} → g < w / 4
      → Turning d (partial d m w projections ω e (g * 4)) (partial d m w projections ω e (g * 4 + 4)) (g * 4) 4 y acc → y < d
      → Coded c (get_or projections ((g * 4 * m + e) * d + y) (pos 0)) (get_or projections ((g * 4 * m + e) * d + y + m * d) (pos 0))
      (get_or projections ((g * 4 * m + e) * d + y + m * d + m * d) (pos 0)) (get_or projections ((g * 4 * m + e) * d + y + m * d + m * d + m * d) (pos 0))
      → AddedFive 8589934592 (λ k. get_or omega_sums ((g * 81 + c) * 5 + k) (pos 0)) (y * 5) acc 5 new
      → Turning d (partial d m w projections ω e (g * 4)) (partial d m w projections ω e (g * 4 + 4)) (g * 4) 4 (y + 1) new
  group-step table {g} {c} {y} l turning h coded added =
      turning_step turning h added (λ k b. partial-four d m w projections ω e g y k (table.entry g c k l coded.below b) coded)
