-- Laws of fields by their place: what `read_field` finds on each of its ways.
use Rattle.std.specs.Prelude.{◌≡◌, refl, Bool, true, false, List, ℕ, zero, suc, ◌+◌, ◌<◌, ltb, length, take, drop, ℤ, pos, neg_ℤ, ◌-ℤ◌, None, Some}
use Rattle.std.proofs.Common.{sym, ap, ◌∙◌, arith, length-take, length-drop, lt-ltb, SFits, to_z, of_z, to_z-of_z}
use Rattle.std.specs.Int.{w64}
use Rattle.std.proofs.Math.Facts.{to_z_pos}
use Rattle.integers.specs.Laws.Bridge.{zarith, sub_pn, neg_pn}
use Rattle.fields.specs.Field.{signed_text, field_text}
use Rattle.fields.specs.Fields.{value_from, same_bytes, field_of, read_field, field_at}
use Rattle.fields.specs.Laws.FieldLaws.{length_field, field_of_other}
use Rattle.fields.specs.Laws.FieldSteps.{value-below}

-- ---- the text ends before the field does

read_short : (l : List ℕ) → length l < 16 → read_field l ≡ None
unfolding read_field
read_short l h =
    field_of_other l _ _ (λ e. shorter _ e) ∙ field_of_other l _ _ (λ e. shorter _ e)
  where
    shorter : (z : ℤ) → l ≡ field_text z → ⊥
    shorter z e = omega (arith, ap length e, length_field z)

pub field_short : (text : List ℕ) (at : ℕ) → length text < at + 16 → None ≡ field_at text at
unfolding field_at
field_short text at h = sym (read_short (take 16 (drop at text)) (omega (arith, length-take 16 (drop at text), length-drop at text)))

-- ---- the digits' value

pub value-fits : (l : List ℕ) {v : ℕ} → v ≡ value_from 0 (take 16 l) → v < 10000000000000000
value-fits l e = omega (arith, e, value-below l 16 (omega arith))

pub opposite-fits : (m : ℕ) → m < 10000000000000000 → SFits w64 (pos 0 -ℤ to_z w64 m)
opposite-fits m h = rw (to_z_pos w64 {n = m} (omega arith)) (omega (zarith, sub_pn (pos 0) (pos m)))

opposite-number : (m : ℕ) → pos 0 -ℤ pos m ≡ neg_ℤ (pos m)
opposite-number m = omega (zarith, sub_pn (pos 0) (pos m), neg_pn (pos m))

pub opposite-is : (m : ℕ) → m < 10000000000000000 → to_z w64 (of_z w64 (pos 0 -ℤ to_z w64 m)) ≡ neg_ℤ (pos m)
opposite-is m h = to_z-of_z (opposite-fits m h) ∙ rw (to_z_pos w64 {n = m} (omega arith)) (opposite-number m)

-- ---- the three answers

-- a minus before every number but 0
signed_opposite : (m : ℕ) → signed_text (ltb 0 m) m ≡ field_text (neg_ℤ (pos m))
unfolding field_text
signed_opposite zero = refl
signed_opposite (suc n) = rw (lt-ltb 0 (suc n) (omega arith)) refl

signed_plain : (m : ℕ) → signed_text false m ≡ field_text (pos m)
unfolding field_text
signed_plain m = refl

module _ (text : List ℕ) (at v : ℕ) where
  pub field_plain : {z : ℤ} {first : Bool} → z ≡ pos v → v ≡ value_from 0 (take 16 (drop at text))
      → first ≡ same_bytes (take 16 (drop at text)) (signed_text false v) → first ≡ true → Some z ≡ field_at text at
  unfolding field_at read_field field_of
  field_plain q e s t = rw (q, ← e) (rw (← signed_plain v, ← s, t) refl)

  pub field_minus : {z : ℤ} {first second : Bool} → z ≡ neg_ℤ (pos v) → v ≡ value_from 0 (take 16 (drop at text))
      → first ≡ same_bytes (take 16 (drop at text)) (signed_text false v) → first ≡ false
      → second ≡ same_bytes (take 16 (drop at text)) (signed_text (ltb 0 v) v) → second ≡ true → Some z ≡ field_at text at
  unfolding field_at read_field field_of
  field_minus q e s t s' t' = rw (q, ← e) (rw (← signed_plain v, ← signed_opposite v, ← s, t, ← s', t') refl)

  pub field_neither : {first second : Bool} → v ≡ value_from 0 (take 16 (drop at text))
      → first ≡ same_bytes (take 16 (drop at text)) (signed_text false v) → first ≡ false
      → second ≡ same_bytes (take 16 (drop at text)) (signed_text (ltb 0 v) v) → second ≡ false → None ≡ field_at text at
  unfolding field_at read_field field_of
  field_neither e s t s' t' = rw (← e) (rw (← signed_plain v, ← signed_opposite v, ← s, t, ← s', t') refl)
