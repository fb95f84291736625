-- Laws that join a text and the numbers on its lines, by place.
--     laid-text                  fields that are laid are the text of their numbers
--     text-held, text-number     and the text of numbers that fit is laid, and gives them back
use Rattle.std.specs.Prelude.{◌≡◌, refl, Bool, true, false, ◌⊎◌, List, ◌∷◌, ◌++◌, ℕ, zero, suc, ◌+◌, ◌<◌, length, get_or, take, drop, ℤ, pos, Option, None, Some, is_some, unwrap_or}
use Rattle.std.proofs.Common.{sym, ◌∙◌, inl, inr, append_assoc, add-zero, lt-suc_self, eq-or-lt_of_le, arith, take-append-drop, drop-drop, drop-cons, get_or-drop, drop_at, eq-eqb}
use Rattle.std.proofs.Math.Path.{ap}
use Rattle.std.proofs.Math.Nat.{le_step}
use Rattle.std.proofs.Math.Seq.{take_at}
use Rattle.integers.specs.Laws.AllLaws.{both_left, both_right}
use Rattle.integers.specs.Flat.{flat}
use Rattle.fields.specs.Field.{field_text, Fits16}
use Rattle.fields.specs.Fields.{read_field, field_at}
use Rattle.fields.specs.Laws.FieldLaws.{field_is-text, field_given_back, length_field}
use Rattle.fields.specs.Place.{field_width, feed, line_fields, place, laid_field, laid, number_at}
use Rattle.fields.specs.Laws.PlaceLaws.{contradiction, laid_field-number, laid_field-feed, laid_field-fits, laid-zero, laid-suc}

-- ---- one field

number-text : (text : List ℕ) (p : ℕ) → is_some (field_at text p) ≡ true → take 16 (drop p text) ≡ field_text (number_at text p)
unfolding field_at number_at
number-text text p e = step (read_field (take 16 (drop p text))) refl e
  where
    step : (f : Option ℤ) → read_field (take 16 (drop p text)) ≡ f → is_some f ≡ true → take 16 (drop p text) ≡ field_text (unwrap_or f (pos 0))
    step (Some z) q e = field_is-text (take 16 (drop p text)) z q
    step None q e = contradiction e refl

after_field : (text : List ℕ) (p : ℕ) (last : Bool) → laid_field text p last ≡ true
    → drop (p + 16) text ≡ feed last ++ drop (p + field_width last) text
unfolding feed field_width
after_field text p false e = refl
after_field text p true e =
    let fits = laid_field-fits text p true e in
    let inside : p + 16 < length text = omega (arith, fits) in
    let next : suc (p + 16) ≡ p + 17 = omega arith in
    drop-cons text (p + 16) 0 inside ∙ rw (laid_field-feed text p e, next) refl

pub field_text_lem : (text : List ℕ) (p : ℕ) (last : Bool) → laid_field text p last ≡ true
    → drop p text ≡ (field_text (number_at text p) ++ feed last) ++ drop (p + field_width last) text
field_text_lem text p last e =
    sym (take-append-drop 16 (drop p text))
    ∙ ap (λ (l : List ℕ). l ++ drop 16 (drop p text)) (number-text text p (laid_field-number text p last e))
    ∙ ap (λ (l : List ℕ). field_text (number_at text p) ++ l) (drop-drop 16 p text ∙ after_field text p last e)
    ∙ sym (append_assoc (field_text (number_at text p)) (feed last) (drop (p + field_width last) text))

module _ (text : List ℕ) (p : ℕ) (last : Bool) (z : ℤ) (rest : List ℕ) (fits : Fits16 z)
    (e : drop p text ≡ (field_text z ++ feed last) ++ rest) where
  split : drop p text ≡ field_text z ++ (feed last ++ rest)
  split = e ∙ append_assoc (field_text z) (feed last) rest

  field_is : field_at text p ≡ Some z
  unfolding field_at
  field_is = rw (split, take_at (field_text z) (feed last ++ rest) 16 (length_field z)) (field_given_back z fits)

  pub text-number : number_at text p ≡ z
  unfolding number_at
  text-number = ap (λ (f : Option ℤ). unwrap_or f (pos 0)) field_is

  rest-is : drop (p + 16) text ≡ feed last ++ rest
  rest-is = sym (drop-drop 16 p text) ∙ rw split (drop_at (field_text z) (feed last ++ rest) 16 (length_field z))

feed_byte : (text : List ℕ) (p : ℕ) (rest : List ℕ) → drop p text ≡ 10 ∷ rest → get_or text p 0 ≡ 10
feed_byte text p rest e =
    ap (λ (k : ℕ). get_or text k 0) (sym (add-zero p)) ∙ sym (get_or-drop p text 0 0) ∙ ap (λ (l : List ℕ). get_or l 0 0) e

text_field : (text : List ℕ) (p : ℕ) (last : Bool) (z : ℤ) (rest : List ℕ) → Fits16 z → drop p text ≡ (field_text z ++ feed last) ++ rest
    → laid_field text p last ≡ true
unfolding laid_field feed
text_field text p false z rest fits e = rw (field_is text p false z rest fits e) refl
text_field text p true z rest fits e =
    rw (field_is text p true z rest fits e)
    (eq-eqb (get_or text (p + 16) 0) 10 (feed_byte text (p + 16) rest (rest-is text p true z rest fits e)))

text-rest : (text : List ℕ) (p : ℕ) (last : Bool) (z : ℤ) (rest : List ℕ) → Fits16 z → drop p text ≡ (field_text z ++ feed last) ++ rest
    → drop (p + field_width last) text ≡ rest
unfolding feed field_width
text-rest text p false z rest fits e = rest-is text p false z rest fits e
text-rest text p true z rest fits e =
    let next : p + 16 + 1 ≡ p + 17 = omega arith in
    ap (λ (k : ℕ). drop k text) (sym next) ∙ sym (drop-drop 1 (p + 16) text) ∙ ap (drop 1) (rest-is text p true z rest fits e)

-- ---- all fields

pub laid-text : (ends : ℕ → Bool) (at : ℕ) (text : List ℕ) (n : ℕ) → laid ends at text n ≡ true
    → drop at text ≡ line_fields ends (λ i. number_at text (place ends at i)) n ++ drop (place ends at n) text
unfolding line_fields flat place
laid-text ends at text zero e = refl
laid-text ends at text (suc n) e =
    let F : ℕ → List ℕ = λ i. field_text (number_at text (place ends at i)) ++ feed (ends i) in
    let both = sym (laid-suc ends at text n) ∙ e in
    laid-text ends at text n (both_left (laid ends at text n) (laid_field text (place ends at n) (ends n)) both)
    ∙ ap (λ (l : List ℕ). flat n F ++ l)
    (field_text_lem text (place ends at n) (ends n) (both_right (laid ends at text n) (laid_field text (place ends at n) (ends n)) both))
    ∙ sym (append_assoc (flat n F) (F n) (drop (place ends at n + field_width (ends n)) text))

-- the fields that a text holds from `at` on
pub record Held (ends : ℕ → Bool) (at : ℕ) (text : List ℕ) (x : ℕ → ℤ) (n : ℕ) (rest : List ℕ) : Type 0 where
  pub is-laid : laid ends at text n ≡ true
  pub number : (i : ℕ) → i < n → number_at text (place ends at i) ≡ x i
  pub after : drop (place ends at n) text ≡ rest

pub text-held : (ends : ℕ → Bool) (at : ℕ) (text : List ℕ) (x : ℕ → ℤ) (n : ℕ) (rest : List ℕ) → ((i : ℕ) → i < n → Fits16 (x i))
    → drop at text ≡ line_fields ends x n ++ rest → Held ends at text x n rest
unfolding line_fields flat place
text-held ends at text x zero rest fits e = record { is-laid = laid-zero ends at text; number = λ i h. none i h; after = e }
  where
    none : (i : ℕ) → i < 0 → number_at text (place ends at i) ≡ x i
    none i h = let never : ⊥ = omega arith in absurd never
text-held ends at text x (suc n) rest fits e =
    let F : ℕ → List ℕ = λ i. field_text (x i) ++ feed (ends i) in
    let held = text-held ends at text x n (F n ++ rest) (λ i h. fits i (le_step h)) (e ∙ append_assoc (flat n F) (F n) rest) in
    let fit = fits n (lt-suc_self n) in
    record {
      is-laid = rw (laid-suc ends at text n, held.is-laid) (text_field text (place ends at n) (ends n) (x n) rest fit held.after);
      number = λ i h. last i (held.number i) (text-number text (place ends at n) (ends n) (x n) rest fit held.after) (eq-or-lt_of_le h);
      after = text-rest text (place ends at n) (ends n) (x n) rest fit held.after;
    }
  where
    last : (i : ℕ) → (i < n → number_at text (place ends at i) ≡ x i) → number_at text (place ends at n) ≡ x n
        → (suc i ≡ suc n) ⊎ (suc i < suc n)
        → number_at text (place ends at i) ≡ x i
    last i before final (inl j) = let same : i ≡ n = omega arith in rw same final
    last i before final (inr l) = before (omega arith)
