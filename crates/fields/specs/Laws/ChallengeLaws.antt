-- The loop over the challenges of a sheet.
--     filled-length, filled-part     an array that `fill` wrote from its start on
--     Challenged                 the first e elements keep the rule: `are_challenges`
use Rattle.std.specs.Prelude.{◌≡◌, Bool, List, length, take, drop}
use Rattle.std.proofs.Math.Path.{refl, sym, ap}
use Rattle.std.proofs.Common.{◌∙◌, add-zero, zero-mul, add_assoc, suc-mul, mul-le-mul_right, add-one, arith, length-take}
use Rattle.std.proofs.Math.Bool.{true, false}
use Prim.Native.Nat.{ℕ, ◌+◌, ◌-◌, ◌*◌, ◌≤◌, ◌<◌}
use Rattle.std.proofs.Math.IntN.{ℤ}
use Rattle.integers.specs.Laws.ListLaws.{take-tab, drop-tab, tab_cong}
use Rattle.integers.specs.Over.{over}
use Rattle.integers.specs.Laws.OverLaws.{length_over, part-over}
use Rattle.ring.specs.Element.{every}
use Rattle.ring.specs.Laws.ElementEquality.{every_true, every-zero, every-add-one}
use Rattle.residues.specs.Range.{coefficients, challenge}
use Rattle.residues.proofs.Laws.RangeLaws.{coefficients-part}
use Rattle.fold.specs.Refusals.{challenges}
use Rattle.fields.specs.Place.{place, number_at, numbers_from, Span}
use Rattle.fields.specs.Laws.PlaceLaws.{place_mono, contradiction}
use Rattle.fields.specs.Laws.WalkLaws.{length-numbers, place-index}
use Rattle.fields.specs.Field.{header_bytes}

-- ---- the array of one challenge

module _ (zeros out : List ℤ) (ends : ℕ → Bool) (text : List ℕ) (from d : ℕ) (size : length zeros ≡ 64) (small : d ≤ 64)
    (written : out ≡ over zeros 0 (numbers_from ends header_bytes text from d)) where
  pub filled-length : d ≡ length (take d out)
  filled-length =
      let l = numbers_from ends header_bytes text from d in
      let n : length l ≡ d = length-numbers ends text from d in
      omega (arith, length-take d out, ap length written, length_over zeros 0 l (omega arith))

  pub filled-part : take d out ≡ numbers_from ends header_bytes text from d
  filled-part = rw written (part-over zeros 0 (numbers_from ends header_bytes text from d) d (omega arith) (length-numbers ends text from d))

-- ---- the elements

block-end : (e r d : ℕ) → e < r → e * d + d ≤ r * d
block-end e r d h = omega (arith, suc-mul e d, mul-le-mul_right d h)

module _ (ends : ℕ → Bool) (text : List ℕ) (from : ℕ) where
  -- d of the numbers, from number m on
  pub numbers-part : (count m d : ℕ) → m + d ≤ count
      → take d (drop m (numbers_from ends header_bytes text from count)) ≡ numbers_from ends header_bytes text (from + m) d
  unfolding numbers_from
  numbers-part count m d h =
      let f : ℕ → ℤ = λ j. number_at text (place ends header_bytes (from + j)) in
      rw (drop-tab m count f (omega arith), take-tab d (count - m) (λ i. f (m + i)) (omega arith))
      (tab_cong d (λ i. f (m + i)) (λ i. number_at text (place ends header_bytes (from + m + i)))
      (λ i k. ap (λ (x : ℕ). number_at text (place ends header_bytes x)) (sym (add_assoc from m i))))

  pub part-span : {start count : ℕ} (m d here : ℕ) → Span ends text from start count → m + d ≤ count → here ≡ place ends header_bytes (from + m)
      → Span ends text (from + m) here d
  part-span {count} m d here span h e =
      record { is = e; inside = omega (arith, span.inside, place_mono ends header_bytes (from + m + d) (from + count) (omega arith)) }

  pub part-coefficients : (count m d : ℕ) → m + d ≤ count → coefficients (numbers_from ends header_bytes text from count) ≡ true
      → coefficients (numbers_from ends header_bytes text (from + m) d) ≡ true
  part-coefficients count m d h e = rw (← numbers-part count m d h) (coefficients-part m d (numbers_from ends header_bytes text from count) e)

pub record Challenged (ends : ℕ → Bool) (text : List ℕ) (from start d r here e : ℕ) : Type 0 where
  pub span : Span ends text from start (r * d)
  pub below : e ≤ r
  pub is : here ≡ place ends header_bytes (from + e * d)
  pub passed : every e (λ i. challenge (take d (drop (i * d) (numbers_from ends header_bytes text from (r * d))))) ≡ true

module _ {ends : ℕ → Bool} {text : List ℕ} {from start d r : ℕ} where
  pub challenged_start : Span ends text from start (r * d) → Challenged ends text from start d r start 0
  challenged_start span =
      let first : from ≡ from + 0 * d = sym (ap (λ (x : ℕ). from + x) (zero-mul d) ∙ add-zero from) in
      record { span = span; below = omega arith; is = span.is ∙ ap (place ends header_bytes) first; passed = every-zero _ }

  module _ {here e : ℕ} (inv : Challenged ends text from start d r here e) (more : e < r) where
    pub challenged_span : Span ends text (from + e * d) here d
    challenged_span = part-span ends text from (e * d) d here inv.span (block-end e r d more) inv.is

    pub challenged_range : coefficients (numbers_from ends header_bytes text from (r * d)) ≡ true
        → coefficients (numbers_from ends header_bytes text (from + e * d) d) ≡ true
    challenged_range q = part-coefficients ends text from (r * d) (e * d) d (block-end e r d more) q

    -- the next place is no smaller than the index
    pub challenged_index : from + e * d + d < length text
    challenged_index = omega (arith, challenged_span.inside, place-index ends (from + e * d + d))

    module _ {good : Bool} (tested : good ≡ challenge (numbers_from ends header_bytes text (from + e * d) d)) where
      tested-part : good ≡ challenge (take d (drop (e * d) (numbers_from ends header_bytes text from (r * d))))
      tested-part = tested ∙ ap challenge (sym (numbers-part ends text from (r * d) (e * d) d (block-end e r d more)))

      pub challenged_false : good ≡ false → false ≡ challenges d r (numbers_from ends header_bytes text from (r * d))
      unfolding challenges
      challenged_false t = step (every r (λ i. challenge (take d (drop (i * d) (numbers_from ends header_bytes text from (r * d)))))) refl
        where
          step : (s : Bool) → every r (λ i. challenge (take d (drop (i * d) (numbers_from ends header_bytes text from (r * d))))) ≡ s → false ≡ s
          step true q = contradiction (every_true r _ q e more) (sym tested-part ∙ t)
          step false q = refl

      pub challenged_step : good ≡ true → {next : ℕ} → next ≡ place ends header_bytes (from + e * d + d)
          → Challenged ends text from start d r next (e + 1)
      challenged_step t q =
          let after : from + e * d + d ≡ from + (e + 1) * d = rw (add-one e, suc-mul e d) (add_assoc from (e * d) d) in
          record {
            span = inv.span;
            below = omega arith;
            is = q ∙ ap (place ends header_bytes) after;
            passed = every-add-one e _ ∙ rw inv.passed (sym tested-part ∙ t);
          }

  pub challenged_end : {here e : ℕ} → Challenged ends text from start d r here e → r ≤ e
      → true ≡ challenges d r (numbers_from ends header_bytes text from (r * d))
  unfolding challenges
  challenged_end {e} inv h = let same : e ≡ r = omega (arith, inv.below) in sym (rw same at inv.passed)
