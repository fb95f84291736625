-- The summands that the loops over constraints add, with the constraints `step` numbers apart, and the places that they read.
--     term_summand, term_step, term_end        Σ_l ψ_kl f'_l at place e
--     whole_summand, whole-step, whole-end     Σ_k α_k f_k at place e
use Rattle.std.specs.Prelude.{◌≡◌, refl, List, ℕ, ◌+◌, ◌-◌, ◌*◌, ◌^◌, ◌≤◌, ◌<◌, length, get_or, take, drop, ℤ, pos}
use Rattle.std.proofs.Common.{◌∙◌, mul-le-mul, arith, length-drop, to_z, of_z}
use Rattle.std.proofs.Math.Nat.{mul-le-mul_right}
use Rattle.integers.specs.Laws.ListLaws.{rest_all}
use Rattle.std.specs.Int.Signed.{mag}
use Rattle.std.specs.Int.{w32}
use Rattle.integers.specs.Laws.FlatLaws.{block-fits}
use Rattle.algebra.specs.Sum.{sum}
use Rattle.ring.specs.Element.{R, Degree, lift, el, array, number}
use Rattle.ring.specs.Laws.ElementLaws.{lift-array}
use Rattle.ring.specs.Laws.Loops.{Summed, summed_step}
use Rattle.residues.proofs.Laws.Words.{word}
use Rattle.fold.specs.Limits.{most_constraints}
use Rattle.fold.specs.Sizes.{function_size}
use Rattle.fold.specs.Statement.{term_at, whole_at}
use Rattle.fold.specs.Refusals.{constant_terms_length, whole_length}
use Rattle.fold.specs.Entries.{term_entry, whole_entry}
use Rattle.constraints.specs.Known.Facts.{TermFacts, WholeFacts}
use Rattle.constraints.specs.Laws.SizeLaws.{function-small, numbers-small}

-- ---- the part of a list from a place on

pub rest-room : (xs : List ℤ) (at : ℕ) {m : ℕ} → at + m ≤ length xs → m ≤ length (take (length xs - at) (drop at xs))
rest-room xs at h = rw (rest_all xs at) (omega (arith, length-drop at xs))

product_small : {x a y b : ℕ} → x ≤ a → y ≤ b → x * y ≤ a * b
product_small h k = mul-le-mul h k

-- ---- the constant-term constraints

unfoldable pub term_summand : (d : ℕ) (constant_terms ψ : List ℤ) (step first e : ℕ) → ℕ → (R d).Carrier
term_summand d constant_terms ψ step first e i = (R d).mul (number d (get_or ψ (first + i) (pos 0))) (el d (drop (i * step) constant_terms) e)

module _ {d : ℕ} (constant_terms ψ : List ℤ) (step first e : ℕ) {L j : ℕ} {acc : List ℤ}
    (running : Summed d L (term_summand d constant_terms ψ step first e) j acc) where
  -- one turn of the loop
  pub term_step : {at : ℕ} {entry weighted next : List ℤ} → Degree d → j < L → at ≡ j * step
      → mag (get_or ψ (first + j) (pos 0)) < 2 ^ 31
      → entry ≡ array d (el d (take (length constant_terms - at) (drop at constant_terms)) e)
      → weighted ≡ array d ((R d).mul (number d (to_z w32 (of_z w32 (get_or ψ (first + j) (pos 0))))) (lift d entry))
      → next ≡ array d ((R d).add (lift d acc) (lift d weighted))
      → Summed d L (term_summand d constant_terms ψ step first e) (j + 1) next
  unfolding term_summand
  term_step {at} {entry} {weighted} {next} degree h place small is scaled added =
      summed_step running degree h
      (scaled
      ∙ rw (
        word (get_or ψ (first + j) (pos 0)) small,
        is,
        lift-array d (el d (take (length constant_terms - at) (drop at constant_terms)) e) degree.small,
        rest_all constant_terms at,
        place,
      ) refl)
      added

pub term_end : (d n r L : ℕ) (constant_terms ψ : List ℤ) (k e : ℕ) {size : ℕ} {acc : List ℤ} → size ≡ function_size n r
    → acc ≡ array d (sum (R d) L (term_summand d constant_terms ψ (size * d + 1) (k * L) e)) → acc ≡ array d (term_entry d n r L constant_terms ψ k e)
unfolding term_summand term_entry term_at
term_end d n r L constant_terms ψ k e is held = held ∙ rw is refl

module _ {d n r L : ℕ} {constant_terms ψ : List ℤ} (facts : TermFacts d n r L constant_terms ψ) {size : ℕ} (is : size ≡ function_size n r) where
  pub term_step-small : size * d ≤ 270848
  term_step-small = rw is (numbers-small facts.shaped)

  -- constraint j ends within the list
  term_room : {j : ℕ} → j < L → j * (size * d + 1) + (size * d + 1) ≤ length constant_terms
  unfolding constant_terms_length
  term_room {j} h = rw is (omega (arith, facts.constant-terms-length, mul-le-mul_right (function_size n r * d + 1) h))

  term_small : length constant_terms ≤ most_constraints * 270849
  unfolding constant_terms_length
  term_small =
      let one : function_size n r * d + 1 ≤ 270849 = omega (arith, numbers-small facts.shaped) in
      omega (arith, facts.constant-terms-length, product_small facts.term_count one)

  -- element e of constraint j, and the rest of the list from it on
  pub term_place : {j e at : ℕ} → j < L → e < function_size n r → at ≡ j * (size * d + 1) → at + (e * d + d) ≤ length constant_terms
  term_place {j} {e} {at} h l place =
      let below : e < size = omega (arith, is, l) in
      omega (arith, term_room h, place, mul-le-mul_right d below)

  -- constraint j from place `at` on
  pub term_inside : {j at : ℕ} → j < L → at ≡ j * (size * d + 1) → (at + (size * d + 1) ≤ length constant_terms) × (length constant_terms ≤ most_constraints * 270849)
  term_inside {j} {at} h place = (omega (arith, term_room h, place), term_small)

pub ψ-place : {d n r L : ℕ} {constant_terms ψ : List ℤ} → TermFacts d n r L constant_terms ψ → {k j : ℕ}
    → k < 5 → j < L → (k * L + j < length ψ) × (k * L + j < 5 * most_constraints)
ψ-place {L} facts {k} {j} h l = (rw facts.ψ-length (block-fits 5 L k j h l), omega (arith, block-fits 5 L k j h l, facts.term_count))

-- ---- the whole constraints

unfoldable pub whole_summand : (d : ℕ) (whole α : List ℤ) (step e : ℕ) → ℕ → (R d).Carrier
whole_summand d whole α step e k = (R d).mul (el d α k) (el d (drop (k * step) whole) e)

module _ {d : ℕ} (whole α : List ℤ) (step e : ℕ) {K k : ℕ} {acc : List ℤ} (running : Summed d K (whole_summand d whole α step e) k acc) where
  pub whole-step : {at : ℕ} {entry weight weighted next : List ℤ} → Degree d → k < K → at ≡ k * step
      → entry ≡ array d (el d (take (length whole - at) (drop at whole)) e)
      → weight ≡ array d (el d α k)
      → weighted ≡ array d ((R d).mul (lift d weight) (lift d entry))
      → next ≡ array d ((R d).add (lift d acc) (lift d weighted))
      → Summed d K (whole_summand d whole α step e) (k + 1) next
  unfolding whole_summand
  whole-step {at} degree h place is by product added =
      summed_step running degree h
      (product
      ∙ rw (
        is,
        by,
        lift-array d (el d α k) degree.small,
        lift-array d (el d (take (length whole - at) (drop at whole)) e) degree.small,
        rest_all whole at,
        place,
      ) refl)
      added

pub whole-end : (d n r K : ℕ) (whole α : List ℤ) (e : ℕ) {size : ℕ} {acc : List ℤ} → size ≡ function_size n r
    → acc ≡ array d (sum (R d) K (whole_summand d whole α ((size + 1) * d) e)) → acc ≡ array d (whole_entry d n r K whole α e)
unfolding whole_summand whole_entry whole_at
whole-end d n r K whole α e is held = held ∙ rw is refl

module _ {d n r K : ℕ} {whole α : List ℤ} (facts : WholeFacts d n r K whole α) {size : ℕ} (is : size ≡ function_size n r) where
  pub whole-size-small : size ≤ 4232
  whole-size-small = rw is (function-small facts.shaped)

  pub whole-step-small : (size + 1) * d ≤ 270912
  whole-step-small =
      let more : size + 1 ≤ 4233 = omega (arith, whole-size-small) in
      product_small more facts.shaped.degree.small

  whole_room : {k : ℕ} → k < K → k * ((size + 1) * d) + (size + 1) * d ≤ length whole
  unfolding whole_length
  whole_room {k} h = rw is (omega (arith, facts.whole_length, mul-le-mul_right ((function_size n r + 1) * d) h))

  whole-small : length whole ≤ most_constraints * 270912
  unfolding whole_length
  whole-small =
      let one : (function_size n r + 1) * d ≤ 270912 = rw is at whole-step-small in
      omega (arith, facts.whole_length, product_small facts.whole-count one)

  pub whole-place : {k e at : ℕ} → k < K → e ≤ function_size n r → at ≡ k * ((size + 1) * d) → at + (e * d + d) ≤ length whole
  whole-place {k} {e} {at} h l place =
      let below : e ≤ size = omega (arith, is, l) in
      omega (arith, whole_room h, place, mul-le-mul_right d below)

  pub whole-inside : {k at : ℕ} → k < K → at ≡ k * ((size + 1) * d) → (at + (size + 1) * d ≤ length whole) × (length whole ≤ most_constraints * 270912)
  whole-inside {k} {at} h place = (omega (arith, whole_room h, place), whole-small)

pub α-place : {d n r K : ℕ} {whole α : List ℤ} → WholeFacts d n r K whole α → {k : ℕ} → k < K → k * d + d ≤ length α
α-place {d} facts h = omega (arith, facts.α-length, mul-le-mul_right d h)
