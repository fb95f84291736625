-- The bytes of one field that is written: blanks, then its digits from the right.
--     over-left         one more element before what is written
--     Blanked           the loop of `write_blanks`
--     Columns           the loop of `write_columns`: the columns from `left` on are written; its start, its step and its ends
--     blank-front, same-room, field_written    the calls of `write_field`
--     laid-inner, laid-last, length-laid    a field and the line feed after it: `write_laid`
use Rattle.std.specs.Prelude.{◌≡◌, Bool, true, get_or, drop, set}
use Rattle.std.proofs.Math.Path.{refl, ap}
use Rattle.std.proofs.Common.{sym, ◌∙◌, add-zero, add-suc, add-one, length-set, take-append-drop, take-suc, take-add, take_at, length-take-le, lt-ltb}
use Rattle.std.proofs.Math.Bool.{false}
use mathlib.Core.List.{List, [], ◌∷◌, ◌++◌, append_assoc, append-nil}
use Prim.Native.Nat.{ℕ, zero, suc, ◌+◌, ◌-◌, ◌/◌, ◌%◌, ◌≤◌, ◌<◌}
use native.Mathlib.Omega.{arith}
use Rattle.std.proofs.Math.ListN.{length, take, length-append}
use Rattle.std.proofs.lemmas.List.{set_at}
use Rattle.integers.specs.Over.{over}
use Rattle.integers.specs.Laws.OverLaws.{over-is, over-nil, over-step, part-over, drop-over, length_over}
use Rattle.fields.specs.Field.{column_byte, minus_due, columns, signed_text}
use Rattle.fields.specs.Place.{blanks, field_width, feed}
use Rattle.fields.specs.Laws.FieldLaws.{length-columns, length_signed}

over-left : (out : List ℕ) (a : ℕ) (l : List ℕ) (x : ℕ) → a < length out → set (over out (suc a) l) a x ≡ over out a (x ∷ l)
unfolding over
over-left out a l x h =
    let rest = drop (suc a + length l) out in
    let y = get_or out a 0 in
    let next : a + suc (length l) ≡ suc a + length l = omega arith in
    rw (take-suc out a 0 h, append_assoc (take a out) (y ∷ []) (l ++ rest), next)
    (set_at (take a out) y (l ++ rest) x a (length-take-le a out (omega arith)))

-- ---- blanks

pub length-blanks : (k : ℕ) → length (blanks k) ≡ k
unfolding blanks
length-blanks zero = refl
length-blanks (suc k) = omega (arith, length-append (blanks k) (32 ∷ []), length-blanks k)

blanks-next : (k : ℕ) → blanks k ++ (32 ∷ []) ≡ blanks (k + 1)
unfolding blanks
blanks-next k = ap blanks (sym (add-one k))

-- nothing but blanks is left of a number that has no digits more and no minus
blank-columns : (k : ℕ) → columns k false 0 ≡ blanks k
unfolding columns blanks column_byte minus_due
blank-columns zero = refl
blank-columns (suc k) = ap (λ (l : List ℕ). l ++ (32 ∷ [])) (blank-columns k)

-- the loop of `write_blanks`
pub record Blanked (out₀ out : List ℕ) (at k : ℕ) : Type 0 where
  pub below : k ≤ 16
  pub is : out ≡ over out₀ at (blanks k)
  pub size : length out ≡ length out₀

pub blanked_start : (out : List ℕ) (at : ℕ) → Blanked out out at 0
unfolding blanks
blanked_start out at = record { below = omega arith; is = sym (over-nil out at); size = refl }

pub blanked_step : {out₀ out : List ℕ} (at k : ℕ) → at + 16 ≤ length out₀ → Blanked out₀ out at k → k < 16
    → Blanked out₀ (set out (at + k) 32) at (k + 1)
blanked_step {out₀} {out} at k inside inv more =
    let end : at + k ≡ at + length (blanks k) = omega (arith, length-blanks k) in
    record {
      below = omega arith;
      is = rw (inv.is, end) (over-step out₀ at (blanks k) 32 (omega (arith, length-blanks k))) ∙ ap (over out₀ at) (blanks-next k);
      size = length-set out (at + k) 32 ∙ inv.size;
    }

pub blanked_end : {out₀ out : List ℕ} {at : ℕ} (k : ℕ) → Blanked out₀ out at k → 16 ≤ k → out ≡ over out₀ at (blanks 16)
blanked_end {out₀} {at} k inv h = let same : k ≡ 16 = omega (arith, inv.below) in inv.is ∙ ap (λ (n : ℕ). over out₀ at (blanks n)) same

-- ---- the loop of `write_columns`

-- the columns from `left` on are written, and those before them are blank
pub record Columns (out₀ out : List ℕ) (at : ℕ) (minus : Bool) (m left rest : ℕ) : Type 0 where
  pub small : left ≤ 15
  pub right : List ℕ
  pub whole : columns 15 minus m ≡ columns left minus rest ++ right
  pub is : out ≡ over out₀ (at + left) right
  pub size : length out ≡ length out₀

blanks-add : (k j : ℕ) → blanks (k + j) ≡ blanks k ++ blanks j
unfolding blanks
blanks-add k zero = rw (add-zero k) (sym (append-nil (blanks k)))
blanks-add k (suc j) = rw (add-suc k j, blanks-add k j) (append_assoc (blanks k) (blanks j) (32 ∷ []))

kept-blanks : (l : List ℕ) (n k : ℕ) → k ≤ n → take n l ≡ blanks n → take k l ≡ blanks k
kept-blanks l n k h e =
    let sum : n ≡ k + (n - k) = omega arith in
    let whole : l ≡ blanks k ++ (blanks (n - k) ++ drop n l) =
    sym (take-append-drop n l) ∙ ap (λ (f : List ℕ). f ++ drop n l) (e ∙ ap blanks sum ∙ blanks-add k (n - k))
    ∙ append_assoc (blanks k) (blanks (n - k)) (drop n l) in
    ap (take k) whole ∙ take_at (blanks k) (blanks (n - k) ++ drop n l) k (length-blanks k)

-- what is written over a front that is there already
over-kept : (out : List ℕ) (at k : ℕ) (l r : List ℕ) → length l ≡ k → take k (drop at out) ≡ l → over out (at + k) r ≡ over out at (l ++ r)
unfolding over
over-kept out at k l r n e =
    let same : at + k + length r ≡ at + length (l ++ r) = omega (arith, length-append l r) in
    rw (take-add at k out, e, same)
    (append_assoc (take at out) l (r ++ drop (at + length (l ++ r)) out)
    ∙ ap (λ (f : List ℕ). take at out ++ f) (sym (append_assoc l r (drop (at + length (l ++ r)) out))))

pub columns-start : (out : List ℕ) (at : ℕ) (minus : Bool) (m : ℕ) → Columns out out at minus m 15 m
columns-start out at minus m =
    record { small = omega arith; right = []; whole = sym (append-nil (columns 15 minus m)); is = sym (over-nil out (at + 15)); size = refl }

digit : (minus : Bool) (k rest : ℕ) → 0 < rest → columns (suc k) minus rest ≡ columns k minus (rest / 10) ++ ((48 + rest % 10) ∷ [])
unfolding columns column_byte minus_due
digit minus k rest h = rw (lt-ltb 0 rest h) refl

module _ (out₀ : List ℕ) (at : ℕ) (minus : Bool) (m : ℕ) (inside : at + 15 ≤ length out₀) where
  -- one more byte on the left
  put-left : (out : List ℕ) (k : ℕ) (right : List ℕ) (byte : ℕ) → k < 15 → out ≡ over out₀ (at + suc k) right
      → set out (at + k) byte ≡ over out₀ (at + k) (byte ∷ right)
  put-left out k right byte h e =
      let same : at + suc k ≡ suc (at + k) = omega arith in
      ap (λ (l : List ℕ). set l (at + k) byte) (e ∙ ap (λ (a : ℕ). over out₀ a right) same) ∙ over-left out₀ (at + k) right byte (omega arith)

  step_left : (out : List ℕ) (k rest : ℕ) → Columns out₀ out at minus m (suc k) rest → 0 < rest
      → Columns out₀ (set out (at + k) (48 + rest % 10)) at minus m k (rest / 10)
  step_left out k rest inv h = record {
    small = omega (arith, inv.small);
    right = (48 + rest % 10) ∷ inv.right;
    whole = inv.whole ∙ rw (digit minus k rest h) (append_assoc (columns k minus (rest / 10)) ((48 + rest % 10) ∷ []) inv.right);
    is = put-left out k inv.right (48 + rest % 10) (omega (arith, inv.small)) inv.is;
    size = length-set out (at + k) (48 + rest % 10) ∙ inv.size;
  }

  pub columns-step : (out : List ℕ) (left rest : ℕ) → Columns out₀ out at minus m left rest → 0 < left → 0 < rest
      → Columns out₀ (set out (at + (left - 1)) (48 + rest % 10)) at minus m (left - 1) (rest / 10)
  columns-step out zero rest inv h k = let never : ⊥ = omega arith in absurd never
  columns-step out (suc k) rest inv h some =
      let less : suc k - 1 ≡ k = omega arith in
      rw less (step_left out k rest inv some)

  -- the digits end: the sign, and the blanks that are there
  sign-left : (out : List ℕ) (k : ℕ) → Columns out₀ out at minus m (suc k) 0 → take 15 (drop at out₀) ≡ blanks 15
      → set out (at + k) (column_byte minus 0) ≡ over out₀ at (columns 15 minus m)
  unfolding columns minus_due
  sign-left out k inv blank =
      let sign = column_byte minus 0 in
      let fits : k ≤ 15 = omega (arith, inv.small) in
      let all : columns 15 minus m ≡ blanks k ++ (sign ∷ inv.right) =
      inv.whole ∙ append_assoc (columns k false 0) (sign ∷ []) inv.right ∙ ap (λ (l : List ℕ). l ++ (sign ∷ inv.right)) (blank-columns k) in
      put-left out k inv.right sign (omega (arith, inv.small)) inv.is
      ∙ over-kept out₀ at k (blanks k) (sign ∷ inv.right) (length-blanks k) (kept-blanks (drop at out₀) 15 k fits blank)
      ∙ ap (over out₀ at) (sym all)

  pub columns-sign : (out : List ℕ) (left rest : ℕ) {sign : ℕ} → Columns out₀ out at minus m left rest → 0 < left → rest ≡ 0
      → take 15 (drop at out₀) ≡ blanks 15 → sign ≡ column_byte minus 0 → set out (at + (left - 1)) sign ≡ over out₀ at (columns 15 minus m)
  columns-sign out zero rest inv h e blank s = let never : ⊥ = omega arith in absurd never
  columns-sign out (suc k) rest inv h e blank s =
      let less : suc k - 1 ≡ k = omega arith in
      rw (less, s) (sign-left out k (rw e at inv) blank)

  pub columns-end : (out : List ℕ) (left rest : ℕ) → Columns out₀ out at minus m left rest → left ≤ 0 → out ≡ over out₀ at (columns 15 minus m)
  unfolding columns
  columns-end out zero rest inv h = inv.is ∙ rw (add-zero at, inv.whole) refl
  columns-end out (suc k) rest inv h = let never : ⊥ = omega arith in absurd never

-- ---- one field

-- one part written over another of its length
over_again : (out : List ℕ) (at : ℕ) (l r : List ℕ) → at ≤ length out → length l ≡ length r → over (over out at l) at r ≡ over out at r
over_again out at l r h n =
    let front : take at (over out at l) ≡ take at out =
    ap (take at) (over-is out at l) ∙ take_at (take at out) (l ++ drop (at + length l) out) at (length-take-le at out h) in
    let rest : drop (at + length r) (over out at l) ≡ drop (at + length r) out = rw (← n) (drop-over out at l h) in
    over-is (over out at l) at r ∙ rw (front, rest) (sym (over-is out at r))

module _ (out : List ℕ) (at : ℕ) (minus : Bool) (m : ℕ) (inside : at + 16 ≤ length out) {blank : List ℕ} (b : blank ≡ over out at (blanks 16)) where
  -- what `write_columns` asks
  pub blank-front : (at + 15 ≤ length blank) × (take 15 (drop at blank) ≡ blanks 15)
  unfolding blanks
  blank-front =
      let same = ap length b ∙ length_over out at (blanks 16) (omega (arith, length-blanks 16)) in
      let part : take 16 (drop at blank) ≡ blanks 16 = rw b (part-over out at (blanks 16) 16 (omega arith) (length-blanks 16)) in
      (omega (arith, same), kept-blanks (drop at blank) 16 15 (omega arith) part)

  module _ {put : List ℕ} (c : put ≡ over blank at (columns 15 minus (m / 10))) where
    wide : length (columns 15 minus (m / 10)) ≡ 15
    wide = length-columns 15 minus (m / 10)

    pub same-room : length put ≡ length out
    same-room =
        let same = ap length b ∙ length_over out at (blanks 16) (omega (arith, length-blanks 16)) in
        ap length c ∙ length_over blank at (columns 15 minus (m / 10)) (omega (arith, same, wide)) ∙ same

    pub field_written : set put (at + 15) (48 + m % 10) ≡ over out at (signed_text minus m)
    unfolding signed_text
    field_written =
        let same = ap length b ∙ length_over out at (blanks 16) (omega (arith, length-blanks 16)) in
        let l = columns 15 minus (m / 10) in
        let end : at + 15 ≡ at + length l = omega (arith, wide) in
        rw (c, end) (over-step blank at l (48 + m % 10) (omega (arith, same, wide)))
        ∙ ap (λ (f : List ℕ). over f at (l ++ ((48 + m % 10) ∷ []))) b
        ∙ over_again out at (blanks 16) (l ++ ((48 + m % 10) ∷ [])) (omega arith)
        (omega (arith, length-blanks 16, length-append l ((48 + m % 10) ∷ []), wide))

-- ---- the line feed

module _ (out₀ : List ℕ) (at : ℕ) (minus : Bool) (m : ℕ) {out : List ℕ} (is : out ≡ over out₀ at (signed_text minus m)) where
  pub laid-inner : {last : Bool} → last ≡ false → out ≡ over out₀ at (signed_text minus m ++ feed last)
  unfolding feed
  laid-inner e = is ∙ rw (e, append-nil (signed_text minus m)) refl

  -- the line feed's place
  pub laid-inside : {last : Bool} → last ≡ true → at + field_width last ≤ length out₀ → at + 16 < length out
  unfolding field_width
  laid-inside e inside =
      let wide : at + 17 ≤ length out₀ = rw e at inside in
      let same = ap length is ∙ length_over out₀ at (signed_text minus m) (omega (arith, length_signed minus m)) in
      omega (arith, same)

  pub laid-last : {last : Bool} → last ≡ true → at + field_width last ≤ length out₀
      → set out (at + 16) 10 ≡ over out₀ at (signed_text minus m ++ feed last)
  unfolding feed field_width
  laid-last e inside =
      let wide : at + 17 ≤ length out₀ = rw e at inside in
      let end : at + 16 ≡ at + length (signed_text minus m) = omega (arith, length_signed minus m) in
      rw (is, e, end) (over-step out₀ at (signed_text minus m) 10 (omega (arith, length_signed minus m)))

pub laid-room : (at n : ℕ) (last : Bool) → at + field_width last ≤ n → at + 16 ≤ n
unfolding field_width
laid-room at n true h = omega arith
laid-room at n false h = h

length-feed : (last : Bool) → 16 + length (feed last) ≡ field_width last
unfolding feed field_width
length-feed true = refl
length-feed false = refl

pub length-laid : (minus : Bool) (m : ℕ) (last : Bool) → length (signed_text minus m ++ feed last) ≡ field_width last
length-laid minus m last = omega (arith, length-append (signed_text minus m) (feed last), length_signed minus m, length-feed last)
