-- The loops that walk over some of the numbers after the header.
--     Walked        here is the place of number from + j: `place_after`
--     Ranged        the first j numbers are within the bound: `all_within`
--     Filled        the first j numbers are written: `fill`
use Rattle.std.specs.Prelude.{◌≡◌, Bool, true, false, List, [], ◌∷◌, leb, get_or, pos, nat_abs}
use Rattle.std.proofs.Math.Path.{refl, sym, ap}
use Rattle.std.proofs.Common.{◌∙◌, subst, add-zero, add_assoc, add-one}
use Prim.Native.Nat.{ℕ, ◌+◌, ◌≤◌, ◌<◌}
use native.Mathlib.Omega.{arith}
use Rattle.std.proofs.Math.ListN.{length, set, length-set}
use Rattle.std.proofs.Math.IntN.{ℤ}
use borrow.Author.Tests.{le-leb, leb-true, leb-false}
use Rattle.integers.specs.Lists.{tab, all}
use Rattle.integers.specs.Laws.ListLaws.{length-tab, get_d_tab, tab-suc}
use Rattle.integers.specs.Over.{over}
use Rattle.integers.specs.Laws.OverLaws.{over-nil, over-tab}
use Rattle.residues.specs.Range.{all_within, coefficients}
use Rattle.residues.proofs.Laws.RangeLaws.{all_within-join, all_within_false, coefficients-at}
use Rattle.fields.specs.Place.{field_width, place, number_at, numbers_from, Span}
use Rattle.fields.specs.Laws.PlaceLaws.{place-next, place_mono}
use Rattle.fields.specs.Field.{header_bytes}

module _ (ends : ℕ → Bool) (text : List ℕ) (from : ℕ) where
  pub number_of : (count j : ℕ) → j < count
      → get_or (numbers_from ends header_bytes text from count) j (pos 0) ≡ number_at text (place ends header_bytes (from + j))
  unfolding numbers_from
  number_of count j h = get_d_tab count (λ k. number_at text (place ends header_bytes (from + k))) j (pos 0) h

  pub length-numbers : (count : ℕ) → length (numbers_from ends header_bytes text from count) ≡ count
  unfolding numbers_from
  length-numbers count = length-tab count (λ k. number_at text (place ends header_bytes (from + k)))

pub place-index : (ends : ℕ → Bool) (i : ℕ) → i + header_bytes ≤ place ends header_bytes i
unfolding place
place-index ends i = omega (arith, place_mono ends header_bytes 0 i (omega arith))

pub record Walked (ends : ℕ → Bool) (text : List ℕ) (from start count here j : ℕ) : Type 0 where
  pub span : Span ends text from start count
  pub below : j ≤ count
  pub is : here ≡ place ends header_bytes (from + j)

module _ {ends : ℕ → Bool} {text : List ℕ} {from start count : ℕ} where
  pub walked_start : Span ends text from start count → Walked ends text from start count start 0
  walked_start span = record { span = span; below = omega arith; is = span.is ∙ ap (place ends header_bytes) (sym (add-zero from)) }

  module _ {here j : ℕ} (inv : Walked ends text from start count here j) where
    -- the place is no smaller than the number's index
    pub walked_index : j < count → from + j < length text
    walked_index more =
        omega (arith, inv.span.inside, place-index ends (from + j), place_mono ends header_bytes (from + j) (from + count) (omega arith))

    module _ (more : j < count) {last : Bool} {width : ℕ} (told : last ≡ ends (from + j)) (wide : width ≡ field_width last) where
      walked_next : here + width ≡ place ends header_bytes (from + j + 1)
      walked_next = rw (inv.is, wide, told) (sym (place-next ends header_bytes (from + j)))

      pub walked_fits : here + width ≤ length text
      walked_fits = omega (arith, walked_next, inv.span.inside, place_mono ends header_bytes (from + j + 1) (from + count) (omega arith))

      pub walked_step : Walked ends text from start count (here + width) (j + 1)
      walked_step = record { span = inv.span; below = omega arith; is = walked_next ∙ ap (place ends header_bytes) (add_assoc from j 1) }

    pub walked_end : count ≤ j → here ≡ place ends header_bytes (from + count)
    walked_end h = let e : j ≡ count = omega (arith, inv.below) in inv.is ∙ ap (λ (k : ℕ). place ends header_bytes (from + k)) e

-- ---- the loop of `all_within`

single : (b : ℕ) (x : ℤ) → nat_abs x ≤ b → all_within b (x ∷ []) ≡ true
unfolding all_within all
single b x h = rw (le-leb (nat_abs x) b h) refl

pub record Ranged (ends : ℕ → Bool) (text : List ℕ) (from start count bound here j : ℕ) : Type 0 where
  pub walk : Walked ends text from start count here j
  pub passed : all_within bound (numbers_from ends header_bytes text from j) ≡ true

module _ {ends : ℕ → Bool} {text : List ℕ} {from start count bound : ℕ} where
  pub ranged_start : Span ends text from start count → Ranged ends text from start count bound start 0
  unfolding numbers_from tab all_within all
  ranged_start span = record { walk = walked_start span; passed = refl }

  module _ {here j : ℕ} (inv : Ranged ends text from start count bound here j) (more : j < count) {good : Bool}
      (tested : good ≡ leb (nat_abs (number_at text here)) bound) where
    here-number : nat_abs (number_at text here) ≡ nat_abs (number_at text (place ends header_bytes (from + j)))
    here-number = ap (λ (p : ℕ). nat_abs (number_at text p)) inv.walk.is

    pub ranged_false : good ≡ false → false ≡ all_within bound (numbers_from ends header_bytes text from count)
    ranged_false t =
        let above = leb-false (nat_abs (number_at text here)) bound (sym tested ∙ t) in
        sym (all_within_false bound (numbers_from ends header_bytes text from count) j
        (rw (number_of ends text from count j more) (omega (arith, above, here-number))))

    pub ranged_step : good ≡ true → {last : Bool} {width : ℕ} → last ≡ ends (from + j) → width ≡ field_width last
        → Ranged ends text from start count bound (here + width) (j + 1)
    unfolding numbers_from
    ranged_step t told wide =
        let within = leb-true (nat_abs (number_at text here)) bound (sym tested ∙ t) in
        let f : ℕ → ℤ = λ k. number_at text (place ends header_bytes (from + k)) in
        record {
          walk = walked_step inv.walk more told wide;
          passed =
              rw (add-one j, tab-suc j f)
              (all_within-join bound (tab j f) (f j ∷ []) inv.passed (single bound (f j) (omega (arith, within, here-number))));
        }

  pub ranged_end : {here j : ℕ} → Ranged ends text from start count bound here j → count ≤ j
      → true ≡ all_within bound (numbers_from ends header_bytes text from count)
  ranged_end {j} inv h =
      let e : j ≡ count = omega (arith, inv.walk.below) in
      sym (rw e at inv.passed)

-- ---- the loop of `fill`

pub record Filled (ends : ℕ → Bool) (text : List ℕ) (from start count : ℕ) (out₀ out : List ℤ) (here j : ℕ) : Type 0 where
  pub walk : Walked ends text from start count here j
  pub written : out ≡ over out₀ 0 (numbers_from ends header_bytes text from j)
  pub size : length out ≡ length out₀

module _ {ends : ℕ → Bool} {text : List ℕ} {from start count : ℕ} where
  pub filled-start : {out : List ℤ} → Span ends text from start count → Filled ends text from start count out out start 0
  unfolding numbers_from tab
  filled-start {out} span = record { walk = walked_start span; written = sym (over-nil out 0); size = refl }

  module _ {out₀ out : List ℤ} {here j : ℕ} (inv : Filled ends text from start count out₀ out here j) (more : j < count) where
    pub filled-small : coefficients (numbers_from ends header_bytes text from count) ≡ true → nat_abs (number_at text here) ≤ 2147483598
    filled-small e =
        omega (
          arith,
          ap (λ (p : ℕ). nat_abs (number_at text p)) inv.walk.is,
          rw (number_of ends text from count j more) at (coefficients-at (numbers_from ends header_bytes text from count) e j),
        )

    pub filled-step : count ≤ length out₀ → {x : ℤ} {last : Bool} {width : ℕ} → x ≡ number_at text here → last ≡ ends (from + j)
        → width ≡ field_width last → Filled ends text from start count out₀ (set out j x) (here + width) (j + 1)
    unfolding numbers_from
    filled-step room {x} read told wide =
        let f : ℕ → ℤ = λ k. number_at text (place ends header_bytes (from + k)) in
        let inside : 0 + j < length out₀ = omega arith in
        let place-j : 0 + j ≡ j = omega arith in
        record {
          walk = walked_step inv.walk more told wide;
          written = rw inv.written (subst (λ (k : ℕ). set (over out₀ 0 (tab j f)) k x ≡ over out₀ 0 (tab (j + 1) f)) place-j
              (over-tab out₀ 0 j f x inside (read ∙ ap (number_at text) inv.walk.is)));
          size = length-set out j x ∙ inv.size;
        }

  pub filled-end : {out₀ out : List ℤ} {here j : ℕ} → Filled ends text from start count out₀ out here j → count ≤ j
      → out ≡ over out₀ 0 (numbers_from ends header_bytes text from count)
  filled-end {j} inv h =
      let e : j ≡ count = omega (arith, inv.walk.below) in
      rw e at inv.written
