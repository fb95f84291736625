-- Laws of numbers on lines, by place: the tests of one field, and the loops that walk over fields.
use Rattle.std.specs.Prelude.{◌≡◌, Bool, cond, List, ℕ, zero, suc, ◌+◌, ◌-◌, ◌≤◌, ◌<◌, T, eqb, ltb, length, get_or, ℤ, Option, None, Some, is_some}
use Rattle.std.proofs.Math.Path.{refl}
use Rattle.std.proofs.Common.{sym, ap, ◌∙◌, subst, add-zero, le_refl}
use Rattle.std.proofs.Math.Bool.{true, false}
use Rattle.std.proofs.Math.Numerals.{add-one}
use native.Mathlib.Omega.{arith}
use Rattle.std.proofs.Math.ListN.{get_or-eq_default}
use borrow.Author.Tests.{eqb-true, ltb-true, ltb-false}
use Rattle.ring.specs.Element.{every}
use Rattle.ring.specs.Laws.ElementEquality.{every_true, every-zero, every-suc, every-add-one}
use Rattle.fields.specs.Fields.{field_at}
use Rattle.fields.specs.Laws.FieldsLaws.{field_short}
use Rattle.fields.specs.Place.{field_width, place, laid_field, laid, end_if}

pub contradiction : {A : Type 0} {t : Bool} → t ≡ true → t ≡ false → A
contradiction e f = absurd (subst T (sym e ∙ f) tt)

-- ---- one field

pub feed_outside : (text : List ℕ) (at : ℕ) → length text ≤ at → false ≡ eqb (get_or text at 0) 10
feed_outside text at h = rw (get_or-eq_default text 0 {n = at} h) refl

-- a field that is a number lies within the text
pub field_inside : (text : List ℕ) (at : ℕ) → is_some (field_at text at) ≡ true → at + 16 ≤ length text
field_inside text at e = step (ltb (length text) (at + 16)) refl
  where
    step : (t : Bool) → ltb (length text) (at + 16) ≡ t → at + 16 ≤ length text
    step true l = contradiction e (ap is_some (sym (field_short text at (ltb-true (length text) (at + 16) l))))
    step false l = ltb-false (length text) (at + 16) l

module _ (text : List ℕ) (at : ℕ) {field : Option ℤ} {number : Bool} (read : field ≡ field_at text at) (told : number ≡ is_some field) where
  is-number : number ≡ is_some (field_at text at)
  is-number = told ∙ ap is_some read

  pub number-inside : number ≡ true → at + 16 ≤ length text
  number-inside t = field_inside text at (sym is-number ∙ t)

module _ (text : List ℕ) (at : ℕ) (last : Bool) {field : Option ℤ} {number : Bool} (read : field ≡ field_at text at)
    (told : number ≡ is_some field)
  where
    pub laid_none : number ≡ false → false ≡ laid_field text at last
    unfolding laid_field
    laid_none t = rw (← is-number text at read told, t) refl

    pub laid-feed : number ≡ true → last ≡ true → {feed : Bool} → feed ≡ eqb (get_or text (at + 16) 0) 10 → feed ≡ laid_field text at last
    unfolding laid_field
    laid-feed t l e = rw (← is-number text at read told, t, l) e

    pub laid-inner : number ≡ true → last ≡ false → true ≡ laid_field text at last
    unfolding laid_field
    laid-inner t l = rw (← is-number text at read told, t, l) refl

pub laid_field-number : (text : List ℕ) (at : ℕ) (last : Bool) → laid_field text at last ≡ true → is_some (field_at text at) ≡ true
unfolding laid_field
laid_field-number text at last e = step (is_some (field_at text at)) refl e
  where
    step : (t : Bool) → is_some (field_at text at) ≡ t → cond t (cond last (eqb (get_or text (at + 16) 0) 10) true) false ≡ true → t ≡ true
    step true q e = refl
    step false q e = e

pub laid_field-feed : (text : List ℕ) (at : ℕ) → laid_field text at true ≡ true → get_or text (at + 16) 0 ≡ 10
unfolding laid_field
laid_field-feed text at e = step (is_some (field_at text at)) e
  where
    step : (t : Bool) → cond t (eqb (get_or text (at + 16) 0) 10) false ≡ true → get_or text (at + 16) 0 ≡ 10
    step true e = eqb-true (get_or text (at + 16) 0) 10 e
    step false e = contradiction refl (sym e)

pub laid_field-fits : (text : List ℕ) (at : ℕ) (last : Bool) → laid_field text at last ≡ true → at + field_width last ≤ length text
unfolding field_width
laid_field-fits text at false e = field_inside text at (laid_field-number text at false e)
laid_field-fits text at true e = step (ltb (at + 16) (length text)) refl
  where
    step : (t : Bool) → ltb (at + 16) (length text) ≡ t → at + 17 ≤ length text
    step true l = omega (arith, ltb-true (at + 16) (length text) l)
    step false l =
        let outside = get_or-eq_default text 0 {n = at + 16} (ltb-false (at + 16) (length text) l) in
        let never : ⊥ = omega (arith, outside, laid_field-feed text at e) in
        absurd never

-- ---- places

module _ (ends : ℕ → Bool) (at : ℕ) where
  pub place-next : (i : ℕ) → place ends at (i + 1) ≡ place ends at i + field_width (ends i)
  unfolding place
  place-next i = rw add-one refl

  pub width-least : (last : Bool) → 16 ≤ field_width last
  unfolding field_width
  width-least true = omega arith
  width-least false = omega arith

  pub place-add : (i k : ℕ) → place ends at i + k ≤ place ends at (i + k)
  place-add i zero = rw (add-zero (place ends at i), add-zero i) (le_refl (place ends at i))
  place-add i (suc k) =
      let e : i + suc k ≡ i + k + 1 = omega arith in
      rw e (omega (arith, place-add i k, place-next (i + k), width-least (ends (i + k))))

  pub place_mono : (i n : ℕ) → i ≤ n → place ends at i + (n - i) ≤ place ends at n
  place_mono i n h =
      let e : i + (n - i) ≡ n = omega arith in subst (λ (m : ℕ). place ends at i + (n - i) ≤ place ends at m) e (place-add i (n - i))

-- ---- one field more

pub laid-zero : (ends : ℕ → Bool) (at : ℕ) (text : List ℕ) → laid ends at text 0 ≡ true
unfolding laid
laid-zero ends at text = every-zero _

pub laid-suc : (ends : ℕ → Bool) (at : ℕ) (text : List ℕ) (n : ℕ)
    → laid ends at text (suc n) ≡ cond (laid ends at text n) (laid_field text (place ends at n) (ends n)) false
unfolding laid
laid-suc ends at text n = every-suc n _

-- ---- the loop of `laid_end`

pub record Laid (ends : ℕ → Bool) (at : ℕ) (text : List ℕ) (n here i : ℕ) : Type 0 where
  pub below : i ≤ n
  pub is : here ≡ place ends at i
  pub passed : laid ends at text i ≡ true

pub laid-start : (ends : ℕ → Bool) (at : ℕ) (text : List ℕ) (n : ℕ) → Laid ends at text n at 0
unfolding place laid
laid-start ends at text n = record { below = omega arith; is = refl; passed = every-zero _ }

module _ (ends : ℕ → Bool) (at : ℕ) (text : List ℕ) (n here i : ℕ) (inv : Laid ends at text n here i) where
  module _ (more : i < n) {last good : Bool} (told : last ≡ ends i) (tested : good ≡ laid_field text here last) where
    tested-place : good ≡ laid_field text (place ends at i) (ends i)
    tested-place = tested ∙ rw (told, inv.is) refl

    pub laid_broken : good ≡ false → None ≡ end_if (laid ends at text n) (place ends at n)
    unfolding laid
    laid_broken t = step (every n (λ k. laid_field text (place ends at k) (ends k))) refl
      where
        step : (t : Bool) → every n (λ k. laid_field text (place ends at k) (ends k)) ≡ t → None ≡ end_if t (place ends at n)
        step true e = contradiction (every_true n _ e i more) (sym tested-place ∙ t)
        step false e = refl

    module _ (kept : good ≡ true) {width : ℕ} (wide : width ≡ field_width last) where
      pub laid-fits : here + width ≤ length text
      laid-fits = omega (arith, wide, laid_field-fits text here last (sym tested ∙ kept))

      pub laid-step : Laid ends at text n (here + width) (i + 1)
      unfolding laid
      laid-step = record {
        below = omega arith;
        is = rw (inv.is, wide, told) (sym (place-next ends at i));
        passed = every-add-one i _ ∙ rw inv.passed (sym tested-place ∙ kept);
      }

  pub laid_end : n ≤ i → Some here ≡ end_if (laid ends at text n) (place ends at n)
  laid_end h =
      let e : i ≡ n = omega (arith, inv.below) in
      let passed : laid ends at text n ≡ true = rw (← e) inv.passed in
      rw passed (ap Some (inv.is ∙ ap (place ends at) e))
