-- The loops over the 16 bytes of a field.
--     value-start, value-next, value-below    `digits_value`: value is that of the digits among the first k bytes
--     Matching                                `is_field_of`: the last bytes agree, so what is left decides; its start, its step and its ends
use Rattle.std.specs.Prelude.{◌≡◌, refl, Bool, true, false, cond, List, [], ◌∷◌, ◌++◌, eqb, length, get_or, take, drop}
use Rattle.std.proofs.Math.Path.{sym}
use Rattle.std.proofs.Common.{ap, ◌∙◌, add-one, length-take, length-drop, take-suc, get_or-drop, eq-eqb, ne_eqb}
use Prim.Native.Nat.{ℕ, zero, suc, ◌+◌, ◌-◌, ◌/◌, ◌%◌, ◌^◌, ◌≤◌, ◌<◌}
use Rattle.std.proofs.Math.Nat.{pow-le-pow_right}
use native.Mathlib.Omega.{arith}
use Rattle.fields.specs.Field.{column_byte, minus_due, columns, signed_text}
use Rattle.fields.specs.Fields.{digit_step, value_from, same_bytes}
use Rattle.fields.specs.Laws.ByteLaws.{value_snoc, same_snoc}
use Rattle.fields.specs.Laws.FieldLaws.{value-bound, length-columns}

-- one more byte of the part that starts at `at`
next_byte : (text : List ℕ) (at k : ℕ) → at + k < length text
    → take (suc k) (drop at text) ≡ take k (drop at text) ++ (get_or text (at + k) 0 ∷ [])
next_byte text at k h =
    take-suc (drop at text) k 0 (omega (arith, length-drop at text)) ∙ ap (λ (x : ℕ). take k (drop at text) ++ (x ∷ []))
    (get_or-drop at text k 0)

length_part : (text : List ℕ) (at k : ℕ) → at + k ≤ length text → length (take k (drop at text)) ≡ k
length_part text at k h = simp (length-take, length-drop) (omega arith)

-- ---- the value of the digits

pub value-start : (l : List ℕ) → 0 ≡ value_from 0 (take 0 l)
unfolding value_from
value-start l = refl

pub value-next : (text : List ℕ) (at k : ℕ) {value r : ℕ} → at + k < length text → value ≡ value_from 0 (take k (drop at text))
    → r ≡ digit_step value (get_or text (at + k) 0) → r ≡ value_from 0 (take (k + 1) (drop at text))
value-next text at k h e q =
    q ∙ ap (λ (v : ℕ). digit_step v (get_or text (at + k) 0)) e
    ∙ sym (rw (add-one k, next_byte text at k h) (value_snoc (take k (drop at text)) (get_or text (at + k) 0)))

pub value-below : (l : List ℕ) (k : ℕ) → k ≤ 16 → value_from 0 (take k l) < 10 ^ 16
value-below l k h =
    let short : length (take k l) ≤ 16 = omega (arith, length-take k l) in
    omega (arith, value-bound (take k l) 0 1 (omega arith), pow-le-pow_right {n = 10} (omega arith) short)

-- ---- the bytes compared from the right

both-last : (s : Bool) → cond s true false ≡ s
both-last true = refl
both-last false = refl

none_last : (s : Bool) → cond s false false ≡ false
none_last true = refl
none_last false = refl

pub record Matching (text : List ℕ) (at : ℕ) (minus : Bool) (m left rest : ℕ) (due : Bool) : Type 0 where
  pub small : left ≤ 15
  pub same : same_bytes (take 16 (drop at text)) (signed_text minus m) ≡ same_bytes (take left (drop at text)) (columns left due rest)

module _ (text : List ℕ) (at : ℕ) (inside : at + 16 ≤ length text) where
  -- the last of k + 1 bytes decides, or the others do
  last_byte : (k : ℕ) (l : List ℕ) (y : ℕ) → k < 16 → length l ≡ k
      → same_bytes (take (suc k) (drop at text)) (l ++ (y ∷ [])) ≡ cond (same_bytes (take k (drop at text)) l)
      (eqb (get_or text (at + k) 0) y) false
  last_byte k l y h e =
      rw (next_byte text at k (omega arith))
      (same_snoc (take k (drop at text)) l (get_or text (at + k) 0) y (length_part text at k (omega arith) ∙ sym e))

  last_equal : (k : ℕ) (l : List ℕ) (y : ℕ) → k < 16 → length l ≡ k → get_or text (at + k) 0 ≡ y
      → same_bytes (take (suc k) (drop at text)) (l ++ (y ∷ [])) ≡ same_bytes (take k (drop at text)) l
  last_equal k l y h e q = last_byte k l y h e ∙ rw (eq-eqb (get_or text (at + k) 0) y q) (both-last (same_bytes (take k (drop at text)) l))

  last-other : (k : ℕ) (l : List ℕ) (y : ℕ) → k < 16 → length l ≡ k → (get_or text (at + k) 0 ≡ y → ⊥)
      → false ≡ same_bytes (take (suc k) (drop at text)) (l ++ (y ∷ []))
  last-other k l y h e q =
      sym (last_byte k l y h e ∙ rw (ne_eqb (get_or text (at + k) 0) y q) (none_last (same_bytes (take k (drop at text)) l)))

  pub matching_start : (minus : Bool) (m : ℕ) → get_or text (at + 15) 0 ≡ 48 + m % 10 → Matching text at minus m 15 (m / 10) minus
  unfolding signed_text
  matching_start minus m q =
      record {
        small = omega arith;
        same = last_equal 15 (columns 15 minus (m / 10)) (48 + m % 10) (omega arith)
            (length-columns 15 minus (m / 10)) q;
      }

  pub matching_not : (minus : Bool) (m : ℕ) → (get_or text (at + 15) 0 ≡ 48 + m % 10 → ⊥)
      → false ≡ same_bytes (take 16 (drop at text)) (signed_text minus m)
  unfolding signed_text
  matching_not minus m q = last-other 15 (columns 15 minus (m / 10)) (48 + m % 10) (omega arith) (length-columns 15 minus (m / 10)) q

  -- the step from k + 1 bytes to k
  step_bytes : (minus : Bool) (m k rest : ℕ) (due : Bool) → Matching text at minus m (suc k) rest due
      → get_or text (at + k) 0 ≡ column_byte due rest
      → Matching text at minus m k (rest / 10) (minus_due due rest)
  unfolding columns
  step_bytes minus m k rest due inv q =
      record {
        small = omega (arith, inv.small);
        same =
            inv.same ∙ last_equal k (columns k (minus_due due rest) (rest / 10)) (column_byte due rest) (omega (arith, inv.small))
            (length-columns k (minus_due due rest) (rest / 10)) q;
      }

  other_bytes : (minus : Bool) (m k rest : ℕ) (due : Bool) → Matching text at minus m (suc k) rest due
      → (get_or text (at + k) 0 ≡ column_byte due rest → ⊥)
      → false ≡ same_bytes (take 16 (drop at text)) (signed_text minus m)
  unfolding columns
  other_bytes minus m k rest due inv q =
      last-other k (columns k (minus_due due rest) (rest / 10)) (column_byte due rest) (omega (arith, inv.small))
      (length-columns k (minus_due due rest) (rest / 10)) q
      ∙ sym inv.same

  less : (k : ℕ) → suc k - 1 ≡ k
  less k = omega arith

  -- the same over the loop's variables
  pub matching_step : (minus : Bool) (m left rest : ℕ) (due : Bool) {byte : ℕ} {next : Bool} → Matching text at minus m left rest due
      → 0 < left
      → byte ≡ column_byte due rest → get_or text (at + (left - 1)) 0 ≡ byte → next ≡ minus_due due rest
      → Matching text at minus m (left - 1) (rest / 10) next
  matching_step minus m zero rest due inv h e q n = let never : ⊥ = omega arith in absurd never
  matching_step minus m (suc k) rest due inv h e q n =
      rw (n, less k) (step_bytes minus m k rest due inv (rw (less k) at q ∙ e))

  pub matching_other : (minus : Bool) (m left rest : ℕ) (due : Bool) {byte : ℕ} → Matching text at minus m left rest due → 0 < left
      → byte ≡ column_byte due rest → (get_or text (at + (left - 1)) 0 ≡ byte → ⊥)
      → false ≡ same_bytes (take 16 (drop at text)) (signed_text minus m)
  matching_other minus m zero rest due inv h e q = let never : ⊥ = omega arith in absurd never
  matching_other minus m (suc k) rest due inv h e q =
      other_bytes minus m k rest due inv (λ s. q (rw (less k) (s ∙ sym e)))

  pub matching_end : (minus : Bool) (m left rest : ℕ) (due : Bool) → Matching text at minus m left rest due → left ≤ 0
      → true ≡ same_bytes (take 16 (drop at text)) (signed_text minus m)
  unfolding same_bytes columns
  matching_end minus m zero rest due inv h = sym inv.same
  matching_end minus m (suc k) rest due inv h = let never : ⊥ = omega arith in absurd never
