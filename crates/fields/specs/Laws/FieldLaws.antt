-- Laws of fields: the reader takes exactly the fields of the numbers that fit, and gives them back.
--     field_given_back    read_field (field_text z) ≡ Some z, where z fits
--     field_is-text       read_field l ≡ Some z → l ≡ field_text z
--     read_fits           read_field l ≡ Some z → Fits16 z
use Rattle.std.specs.Prelude.{◌≡◌, refl, Bool, true, false, cond, List, [], ◌∷◌, ◌++◌, ◌⊎◌, ℕ, zero, suc, ◌+◌, ◌*◌, ◌/◌, ◌%◌, ◌^◌, ◌≤◌, ◌<◌, T, ltb, eqb, length, ℤ, pos, negsuc, neg_ℤ, nat_abs, Option, None, Some}
use Rattle.std.proofs.Common.{sym, ap, ◌∙◌, subst, inl, inr, div-add-mod', mod-lt, div-lt_iff_lt-mul, le-div_iff_mul-le, pow-suc, zero-add, mul_assoc, arith, length-append, lt-ltb, le-ltb, ne_eqb, ltb-true, ltb-false}
use Rattle.std.proofs.Math.Nat.{pow-succ', one-le-pow, zero-div}
use Rattle.integers.specs.Laws.Bridge.{zarith, neg_pn}
use Rattle.fields.specs.Field.{column_byte, minus_due, columns, negative, signed_text, field_text, Fits16}
use Rattle.fields.specs.Fields.{digit_step, value_from, same_bytes, field_of, read_field}
use Rattle.fields.specs.Laws.ByteLaws.{same_refl, same_equal, same_true, same_false, value_snoc, digit-step, other_step, step-bound}

-- ---- the columns' value

pub byte_digit : (s : Bool) (m : ℕ) → 0 < m → column_byte s m ≡ 48 + m % 10
unfolding column_byte
byte_digit s m h = rw (lt-ltb 0 m h) refl

pub byte_zero : (s : Bool) → column_byte s 0 ≡ cond s 45 32
unfolding column_byte
byte_zero s = refl

pub byte_none : (s : Bool) (m : ℕ) {t : Bool} → m ≤ 0 → s ≡ t → cond t 45 32 ≡ column_byte s m
unfolding column_byte
byte_none s m h e = rw (le-ltb 0 m h, e) refl

zero_byte_step : (s : Bool) (m : ℕ) → digit_step m (column_byte s 0) ≡ m
zero_byte_step true m = rw (byte_zero true) (other_step m 45 (omega arith))
zero_byte_step false m = rw (byte_zero false) (other_step m 32 (omega arith))

tenth : (m k : ℕ) → m < 10 ^ suc k → m / 10 < 10 ^ k
tenth m k h = (div-lt_iff_lt-mul {k = 10} {x = m} {y = 10 ^ k} (omega arith)).1 (rw (pow-suc 10 k) at h)

pub value-columns : (k : ℕ) (s : Bool) (m : ℕ) → m < 10 ^ k → value_from 0 (columns k s m) ≡ m
unfolding columns value_from
value-columns zero s m h = omega arith
value-columns (suc k) s zero h =
    rw (value_snoc (columns k (minus_due s 0) (0 / 10)) (column_byte s 0), zero_byte_step s)
    (rw (zero-div 10) (value-columns k (minus_due s 0) 0 (tenth 0 k h)))
value-columns (suc k) s (suc m) h =
    rw (
      value_snoc (columns k (minus_due s (suc m)) (suc m / 10)) (column_byte s (suc m)),
      byte_digit s (suc m) (omega arith),
      value-columns k (minus_due s (suc m)) (suc m / 10) (tenth (suc m) k h),
      digit-step (suc m / 10) (suc m % 10) (mod-lt (suc m) (omega arith)),
    )
    (div-add-mod' (suc m) 10)

pub value_signed : (s : Bool) (m : ℕ) → m < 10 ^ 16 → value_from 0 (signed_text s m) ≡ m
unfolding signed_text
value_signed s m h =
    rw (
      value_snoc (columns 15 s (m / 10)) (48 + m % 10),
      value-columns 15 s (m / 10) (tenth m 15 h),
      digit-step (m / 10) (m % 10) (mod-lt m (omega arith)),
    )
    (div-add-mod' m 10)

-- ---- the length

pub length-columns : (k : ℕ) (s : Bool) (m : ℕ) → length (columns k s m) ≡ k
unfolding columns
length-columns zero s m = refl
length-columns (suc k) s m =
    omega (arith, length-append (columns k (minus_due s m) (m / 10)) (column_byte s m ∷ []), length-columns k (minus_due s m) (m / 10))

pub length_signed : (s : Bool) (m : ℕ) → length (signed_text s m) ≡ 16
unfolding signed_text
length_signed s m = omega (arith, length-append (columns 15 s (m / 10)) ((48 + m % 10) ∷ []), length-columns 15 s (m / 10))

pub length_field : (z : ℤ) → length (field_text z) ≡ 16
unfolding field_text
length_field z = length_signed (negative z) (nat_abs z)

pub value-bound : (l : List ℕ) (n b : ℕ) → n < b → value_from n l < b * 10 ^ length l
unfolding value_from
value-bound [] n b h = omega arith
value-bound (x ∷ l) n b h =
    rw (pow-succ' 10 (length l), ← mul_assoc b 10 (10 ^ length l)) (value-bound l (digit_step n x) (b * 10) (step-bound n x b h))

-- ---- a minus is written exactly if there is room for it

-- how many bytes are a minus
minuses : List ℕ → ℕ
minuses [] = 0
minuses (x ∷ l) = cond (eqb x 45) 1 0 + minuses l

minuses-append : (l m : List ℕ) → minuses (l ++ m) ≡ minuses l + minuses m
unfolding minuses
minuses-append [] m = sym (zero-add (minuses m))
minuses-append (x ∷ l) m = omega (arith, minuses-append l m)

minuses_snoc : (l : List ℕ) (x : ℕ) → minuses (l ++ (x ∷ [])) ≡ minuses l + cond (eqb x 45) 1 0
unfolding minuses
minuses_snoc l x = omega (arith, minuses-append l (x ∷ []))

digit_not_minus : (k : ℕ) → eqb (48 + k) 45 ≡ false
digit_not_minus k = ne_eqb (48 + k) 45 (λ e. omega arith)

minuses_plain : (k m : ℕ) → minuses (columns k false m) ≡ 0
unfolding columns minuses minus_due
minuses_plain zero m = refl
minuses_plain (suc k) zero =
    rw (minuses_snoc (columns k false (0 / 10)) (column_byte false 0), byte_zero false) (rw (minuses_plain k (0 / 10)) refl)
minuses_plain (suc k) (suc m) =
    rw (
      lt-ltb 0 (suc m) (omega arith),
      minuses_snoc (columns k false (suc m / 10)) (column_byte false (suc m)),
      byte_digit false (suc m) (omega arith),
      digit_not_minus (suc m % 10),
    )
    (rw (minuses_plain k (suc m / 10)) refl)

minuses-minus : (k m : ℕ) → m < 10 ^ k → minuses (columns (suc k) true m) ≡ 1
unfolding columns minuses minus_due
minuses-minus zero zero h = rw (byte_zero true) refl
minuses-minus zero (suc m) h = let no_room : ⊥ = omega arith in absurd no_room
minuses-minus (suc k) zero h =
    rw (minuses_snoc (columns (suc k) false (0 / 10)) (column_byte true 0), byte_zero true) (rw (minuses_plain (suc k) (0 / 10)) refl)
minuses-minus (suc k) (suc m) h =
    rw (
      lt-ltb 0 (suc m) (omega arith),
      minuses_snoc (columns (suc k) true (suc m / 10)) (column_byte true (suc m)),
      byte_digit true (suc m) (omega arith),
      digit_not_minus (suc m % 10),
    )
    (rw (minuses-minus k (suc m / 10) (tenth (suc m) k h)) refl)

-- no room: the minus falls off
crowded : (k m : ℕ) → 10 ^ k ≤ m → columns (suc k) true m ≡ columns (suc k) false m
unfolding columns minus_due
crowded zero m h =
    let positive : 0 < m = omega arith in
    rw (byte_digit true m positive, byte_digit false m positive) refl
crowded (suc k) m h =
    let positive : 0 < m = omega (arith, one-le-pow (suc k) 10 (omega arith)) in
    let rest : 10 ^ k ≤ m / 10 = (le-div_iff_mul-le {k = 10} {x = 10 ^ k} {y = m} (omega arith)).1 (rw (pow-suc 10 k) at h) in
    rw (lt-ltb 0 m positive, byte_digit true m positive, byte_digit false m positive)
    (ap (λ (l : List ℕ). l ++ ((48 + m % 10) ∷ [])) (crowded k (m / 10) rest))

-- ---- round trips

signed_differ : (m : ℕ) → m < 10 ^ 15 → signed_text true m ≡ signed_text false m → ⊥
unfolding signed_text minuses
signed_differ m h e =
    let last : ℕ = cond (eqb (48 + m % 10) 45) 1 0 in
    let one : minuses (signed_text true m) ≡ 1 + last = minuses_snoc (columns 15 true (m / 10)) (48 + m % 10) ∙ ap (λ (x : ℕ). x + last)
    (minuses-minus 14 (m / 10) (tenth m 14 h)) in
    let none : minuses (signed_text false m) ≡ 0 + last = minuses_snoc (columns 15 false (m / 10)) (48 + m % 10) ∙ ap
    (λ (x : ℕ). x + last) (minuses_plain 15 (m / 10)) in
    let same : minuses (signed_text true m) ≡ minuses (signed_text false m) = ap minuses e in
    omega arith

signed_crowded : (m : ℕ) → 10 ^ 15 ≤ m → signed_text true m ≡ signed_text false m
unfolding signed_text
signed_crowded m h =
    let rest : 10 ^ 14 ≤ m / 10 = (le-div_iff_mul-le {k = 10} {x = 10 ^ 14} {y = m} (omega arith)).1 h in
    rw (crowded 14 (m / 10) rest) refl

pub field_of_same : (z : ℤ) (other : Option ℤ) → field_of (field_text z) z other ≡ Some z
unfolding field_of
field_of_same z other = rw (same_refl (field_text z)) refl

pub field_of_other : (l : List ℕ) (z : ℤ) (other : Option ℤ) → (l ≡ field_text z → ⊥) → field_of l z other ≡ other
unfolding field_of
field_of_other l z other differ = rw (same_false l (field_text z) differ) refl

pub field_given_back : (z : ℤ) → Fits16 z → read_field (field_text z) ≡ Some z
unfolding read_field field_text
field_given_back (pos n) f =
    rw (value_signed false n (omega (zarith, f.most))) (field_of_same (pos n) _)
field_given_back (negsuc n) f =
    let small : suc n < 10 ^ 15 = omega (zarith, f.least) in
    rw (
      value_signed true (suc n) (omega arith),
      field_of_other (field_text (negsuc n)) (pos (suc n))
          (field_of (field_text (negsuc n)) (negsuc n) None) (signed_differ (suc n) small),
    )
    (field_of_same (negsuc n) None)

-- what is read: the number without or with a minus
read_cases : (l : List ℕ) (z : ℤ) → read_field l ≡ Some z
    → ((z ≡ pos (value_from 0 l)) × (l ≡ field_text z))
    ⊎ ((z ≡ neg_ℤ (pos (value_from 0 l))) × (l ≡ field_text z) × (l ≡ field_text (pos (value_from 0 l)) → ⊥))
unfolding read_field field_of
read_cases l z e = first (same_bytes l (field_text plain)) refl e
  where
    plain : ℤ
    plain = pos (value_from 0 l)

    differs : {t : Bool} → t ≡ true → t ≡ false → ⊥
    differs e f = subst T (sym e ∙ f) tt

    second : (t : Bool) → same_bytes l (field_text (neg_ℤ plain)) ≡ t → (l ≡ field_text plain → ⊥)
        → cond t (Some (neg_ℤ plain)) None ≡ Some z
        → ((z ≡ plain) × (l ≡ field_text z)) ⊎ ((z ≡ neg_ℤ plain) × (l ≡ field_text z) × (l ≡ field_text plain → ⊥))
    second true q differ e = let w : z ≡ neg_ℤ plain = cc in inr (w, rw w (same_true l _ q), differ)
    second false q differ e = let f : ◌≡◌ {A = ℕ} 0 1 = cc in absurd (omega arith)

    first : (t : Bool) → same_bytes l (field_text plain) ≡ t
        → cond t (Some plain) (cond (same_bytes l (field_text (neg_ℤ plain))) (Some (neg_ℤ plain)) None) ≡ Some z
        → ((z ≡ plain) × (l ≡ field_text z)) ⊎ ((z ≡ neg_ℤ plain) × (l ≡ field_text z) × (l ≡ field_text plain → ⊥))
    first true q e = let w : z ≡ plain = cc in inl (w, rw w (same_true l _ q))
    first false q e = second (same_bytes l (field_text (neg_ℤ plain))) refl (λ s. differs (same_equal l (field_text plain) s) q) e

pub field_is-text : (l : List ℕ) (z : ℤ) → read_field l ≡ Some z → l ≡ field_text z
field_is-text l z e = text (read_cases l z e)
  where
    text : ((z ≡ pos (value_from 0 l)) × (l ≡ field_text z))
        ⊎ ((z ≡ neg_ℤ (pos (value_from 0 l))) × (l ≡ field_text z) × (l ≡ field_text (pos (value_from 0 l)) → ⊥))
        → l ≡ field_text z
    text (inl h) = h.1
    text (inr h) = h.1

pub value-small : (l : List ℕ) (z : ℤ) → l ≡ field_text z → value_from 0 l < 10 ^ 16
value-small l z e = let n : length l ≡ 16 = ap length e ∙ length_field z in omega (arith, rw n at (value-bound l 0 1 (omega arith)))

minus-small : (m : ℕ) → ((field_text (neg_ℤ (pos m)) ≡ field_text (pos m)) → ⊥) → m < 10 ^ 15
unfolding field_text
minus-small zero differ = absurd (differ refl)
minus-small (suc n) differ = step (ltb (suc n) (10 ^ 15)) refl
  where
    step : (t : Bool) → ltb (suc n) (10 ^ 15) ≡ t → suc n < 10 ^ 15
    step true e = ltb-true (suc n) (10 ^ 15) e
    step false e = absurd (differ (signed_crowded (suc n) (ltb-false (suc n) (10 ^ 15) e)))

pub read_fits : (l : List ℕ) (z : ℤ) → read_field l ≡ Some z → Fits16 z
read_fits l z e = fits (read_cases l z e)
  where
    fits : ((z ≡ pos (value_from 0 l)) × (l ≡ field_text z))
        ⊎ ((z ≡ neg_ℤ (pos (value_from 0 l))) × (l ≡ field_text z) × (l ≡ field_text (pos (value_from 0 l)) → ⊥))
        → Fits16 z
    fits (inl h) =
        let small = value-small l z h.1 in
        rw h.0 (record { least = omega zarith; most = omega zarith })
    fits (inr h) =
        let plain : ℤ = pos (value_from 0 l) in
        let text : l ≡ field_text (neg_ℤ plain) = rw h.0 at h.1 in
        let small : value_from 0 l < 10 ^ 15 = minus-small (value_from 0 l) (λ s. h.2 (text ∙ s)) in
        rw h.0 (record { least = omega (zarith, neg_pn plain); most = omega (zarith, neg_pn plain) })
