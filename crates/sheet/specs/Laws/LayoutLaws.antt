-- Laws of lines: where they end, by the place of a number, and their text field by field.
--     ends_of ws i            number i is the last of its line, where lines have the widths ws
--     text-fields            the text of numbers on lines, field by field
use Rattle.std.specs.Prelude.{◌≡◌, refl, Bool, true, false, cond, List, [], ◌∷◌, ◌++◌, ℕ, zero, suc, ◌+◌, ◌*◌, ◌-◌, ◌%◌, ◌≤◌, ◌<◌, ltb, eqb, length, get_or, take, drop, ℤ, pos}
use Rattle.std.proofs.Common.{sym, ap, ap₂, ◌∙◌, append_assoc, append-nil, zero-mul, suc-mul, zero-add, mod-eq_of_lt, mod-lt, add-one, arith, length-take, length-drop, get_or-take, get_or-drop, lt-ltb, le-ltb, ltb-true, ltb-false, eq-eqb, ne_eqb}
use Rattle.std.proofs.Math.Nat.{mod-eq-sub-mod}
use Rattle.integers.specs.Flat.{flat}
use Rattle.integers.specs.Laws.FlatLaws.{flat_cong, flat_append}
use Rattle.fields.specs.Field.{field_text}
use Rattle.fields.specs.Sections.{ends_element, ends_term}
use Rattle.fields.specs.Place.{feed, line_fields}
use Rattle.sheet.specs.Layout.{copies, elements, fields, line_text, text_of}

unfoldable pub ends_of : List ℕ → ℕ → Bool
ends_of [] i = false
ends_of (w ∷ ws) i = cond (ltb i w) (eqb (suc i) w) (ends_of ws (i - w))

-- no line is empty
abbrev pub Positive : List ℕ → Type 0
Positive [] = Unit {0}
Positive (w ∷ ws) = (0 < w) × Positive ws

-- ---- the text of lines

pub fields_cong : (ends ends' : ℕ → Bool) (x x' : ℕ → ℤ) (n : ℕ) → ((i : ℕ) → i < n → ends i ≡ ends' i) → ((i : ℕ) → i < n → x i ≡ x' i)
    → line_fields ends x n ≡ line_fields ends' x' n
unfolding line_fields
fields_cong ends ends' x x' n e f = flat_cong n _ _ (λ i h. rw (e i h, f i h) refl)

field_of : List ℤ → ℕ → List ℕ
field_of xs i = field_text (get_or xs i (pos 0))

inner_field : (xs : List ℤ) (k i : ℕ) → i < k → field_of xs i ≡ field_text (get_or xs i (pos 0)) ++ feed (eqb (suc i) (suc k))
unfolding field_of feed
inner_field xs k i h = rw (ne_eqb (suc i) (suc k) (λ q. omega arith)) (sym (append-nil (field_text (get_or xs i (pos 0)))))

pub line-fields : (xs : List ℤ) (k : ℕ) → length xs ≡ suc k
    → line_text xs ≡ line_fields (λ i. eqb (suc i) (suc k)) (λ i. get_or xs i (pos 0)) (suc k)
unfolding line_text line_fields flat feed field_of
line-fields xs k e =
    rw (e, eq-eqb (suc k) (suc k) refl)
    (append_assoc (flat k (field_of xs)) (field_of xs k) (10 ∷ [])
    ∙ ap (λ (l : List ℕ). l ++ (field_of xs k ++ (10 ∷ []))) (flat_cong k (field_of xs) _ (inner_field xs k)))

no_fields : (ends : ℕ → Bool) (x : ℕ → ℤ) → [] ≡ line_fields ends x 0
unfolding line_fields flat
no_fields ends x = refl

fields-append-text : (ends : ℕ → Bool) (x : ℕ → ℤ) (m n : ℕ)
    → line_fields ends x (m + n) ≡ line_fields ends x m ++ line_fields (λ i. ends (m + i)) (λ i. x (m + i)) n
unfolding line_fields
fields-append-text ends x m n = flat_append m n (λ i. field_text (x i) ++ feed (ends i))

ends_first : (w : ℕ) (ws : List ℕ) (i : ℕ) → i < w → eqb (suc i) w ≡ ends_of (w ∷ ws) i
unfolding ends_of
ends_first w ws i h = rw (lt-ltb i w h) refl

ends_later : (w : ℕ) (ws : List ℕ) (i : ℕ) → ends_of ws i ≡ ends_of (w ∷ ws) (w + i)
unfolding ends_of
ends_later w ws i = let e : w + i - w ≡ i = omega arith in rw (le-ltb (w + i) w (omega arith), e) refl

pub text-fields : (ws : List ℕ) (xs : List ℤ) → Positive ws → length xs ≡ fields ws
    → text_of ws xs ≡ line_fields (ends_of ws) (λ i. get_or xs i (pos 0)) (fields ws)
unfolding text_of fields
text-fields [] xs p e = no_fields (ends_of []) (λ i. get_or xs i (pos 0))
text-fields (zero ∷ ws) xs p e = let never : ⊥ = omega (arith, p.0) in absurd never
text-fields (suc k ∷ ws) xs p e =
    let w = suc k in
    let first : length (take w xs) ≡ w = omega (arith, length-take w xs) in
    let rest : length (drop w xs) ≡ fields ws = omega (arith, length-drop w xs) in
    let x : ℕ → ℤ = λ i. get_or xs i (pos 0) in
    ap₂ ◌++◌
    (line-fields (take w xs) k first
    ∙ fields_cong (λ i. eqb (suc i) w) (ends_of (w ∷ ws)) (λ i. get_or (take w xs) i (pos 0)) x w (ends_first w ws)
    (λ i h. get_or-take w xs i (pos 0) h))
    (text-fields ws (drop w xs) p.1 rest
    ∙ fields_cong (ends_of ws) (λ i. ends_of (w ∷ ws) (w + i)) (λ i. get_or (drop w xs) i (pos 0)) (λ i. x (w + i)) (fields ws)
    (λ i h. ends_later w ws i) (λ i h. get_or-drop w xs i (pos 0)))
    ∙ sym (fields-append-text (ends_of (w ∷ ws)) x w (fields ws))

-- ---- lines one after the other, and copies of lines

pub fields-append : (xs ys : List ℕ) → fields (xs ++ ys) ≡ fields xs + fields ys
unfolding fields
fields-append [] ys = sym (zero-add (fields ys))
fields-append (w ∷ xs) ys = omega (arith, fields-append xs ys)

pub fields-copies : (c : ℕ) (l : List ℕ) → fields (copies c l) ≡ c * fields l
unfolding copies fields
fields-copies zero l = sym (zero-mul (fields l))
fields-copies (suc c) l = fields-append l (copies c l) ∙ omega (arith, fields-copies c l, suc-mul c (fields l))

pub fields-elements : (d c : ℕ) → fields (elements d c) ≡ c * d
unfolding elements fields
fields-elements d c = fields-copies c (d ∷ []) ∙ ap (λ (x : ℕ). c * x) one
  where
    one : d + 0 ≡ d
    one = omega arith

pub positive-append : (xs ys : List ℕ) → Positive xs → Positive ys → Positive (xs ++ ys)
positive-append [] ys p q = q
positive-append (w ∷ xs) ys p q = (p.0, positive-append xs ys p.1 q)

pub positive-copies : (c : ℕ) (l : List ℕ) → Positive l → Positive (copies c l)
unfolding copies
positive-copies zero l p = tt
positive-copies (suc c) l p = positive-append l (copies c l) p (positive-copies c l p)

pub positive-elements : (d c : ℕ) → 0 < d → Positive (elements d c)
unfolding elements
positive-elements d c h = positive-copies c (d ∷ []) (h, tt)

pub ends_front : (xs ys : List ℕ) (i : ℕ) → i < fields xs → ends_of (xs ++ ys) i ≡ ends_of xs i
unfolding ends_of fields
ends_front [] ys i h = let never : ⊥ = omega arith in absurd never
ends_front (w ∷ xs) ys i h = step (ltb i w) refl (ends_front xs ys (i - w))
  where
    step : (t : Bool) → ltb i w ≡ t → (i - w < fields xs → ends_of (xs ++ ys) (i - w) ≡ ends_of xs (i - w))
        → cond t (eqb (suc i) w) (ends_of (xs ++ ys) (i - w)) ≡ cond t (eqb (suc i) w) (ends_of xs (i - w))
    step true e rest = refl
    step false e rest = rest (omega (arith, ltb-false i w e))

pub ends_back : (xs ys : List ℕ) (i : ℕ) → fields xs ≤ i → ends_of (xs ++ ys) i ≡ ends_of ys (i - fields xs)
unfolding ends_of fields
ends_back [] ys i h = let e : i - 0 ≡ i = omega arith in rw e refl
ends_back (w ∷ xs) ys i h =
    let e : i - w - fields xs ≡ i - (w + fields xs) = omega arith in
    rw (le-ltb i w (omega arith)) (ends_back xs ys (i - w) (omega arith) ∙ ap (ends_of ys) e)

pub ends_copies : (c : ℕ) (l : List ℕ) (i : ℕ) → i < c * fields l → ends_of (copies c l) i ≡ ends_of l (i % fields l)
unfolding copies
ends_copies zero l i h = let never : ⊥ = omega (arith, zero-mul (fields l)) in absurd never
ends_copies (suc c) l i h = step (ltb i (fields l)) refl (ends_copies c l (i - fields l))
  where
    step : (t : Bool) → ltb i (fields l) ≡ t
        → (i - fields l < c * fields l → ends_of (copies c l) (i - fields l) ≡ ends_of l ((i - fields l) % fields l))
        → ends_of (l ++ copies c l) i ≡ ends_of l (i % fields l)
    step true e rest =
        let small = ltb-true i (fields l) e in
        ends_front l (copies c l) i small ∙ ap (ends_of l) (sym (mod-eq_of_lt small))
    step false e rest =
        let large = ltb-false i (fields l) e in
        ends_back l (copies c l) i large
        ∙ rest (omega (arith, large, suc-mul c (fields l)))
        ∙ ap (ends_of l) (sym (mod-eq-sub-mod large))

-- ---- lines of elements

fields-single : (d : ℕ) → fields (d ∷ []) ≡ d
unfolding fields
fields-single d = omega arith

last_alone : ends_of (elements 1 1) 0 ≡ true
unfolding ends_of elements copies
last_alone = refl

pub ends_elements : (d c i : ℕ) → 0 < d → i < c * d → ends_of (elements d c) i ≡ ends_element d i
unfolding elements ends_element
ends_elements d c i p h =
    let one : fields (d ∷ []) ≡ d = fields-single d in
    ends_copies c (d ∷ []) i (rw one h) ∙ rw one
    (sym (ends_first d [] (i % d) (mod-lt i p)) ∙ ap (λ (k : ℕ). eqb k d) (sym (add-one (i % d))))

-- number k of one constant-term constraint
inside : (d f k : ℕ) → 0 < d → k < f * d + 1
    → ends_of (elements d f ++ elements 1 1) k ≡ cond (eqb (k + 1) (f * d + 1)) true (ends_element d k)
inside d f k p h = step (ltb k (f * d)) refl
  where
    step : (t : Bool) → ltb k (f * d) ≡ t → ends_of (elements d f ++ elements 1 1) k ≡ cond (eqb (k + 1) (f * d + 1)) true (ends_element d k)
    step true e =
        let small = ltb-true k (f * d) e in
        rw (ne_eqb (k + 1) (f * d + 1) (λ q. omega arith))
        (ends_front (elements d f) (elements 1 1) k (rw (fields-elements d f) small) ∙ ends_elements d f k p small)
    step false e =
        let large = ltb-false k (f * d) e in
        let same : k ≡ f * d = omega arith in
        let zero_left : k - fields (elements d f) ≡ 0 = omega (arith, fields-elements d f) in
        rw (eq-eqb (k + 1) (f * d + 1) (omega arith))
        (ends_back (elements d f) (elements 1 1) k (omega (arith, fields-elements d f)) ∙ ap (ends_of (elements 1 1)) zero_left ∙ last_alone)

-- one constant-term constraint: f elements, and a line of one number
pub ends_term_lem : (d f i : ℕ) → 0 < d → (c : ℕ) → i < c * (f * d + 1)
    → ends_of (copies c (elements d f ++ elements 1 1)) i ≡ ends_term d (f * d + 1) i
unfolding ends_term
ends_term_lem d f i p c h =
    let l = elements d f ++ elements 1 1 in
    let size : fields l ≡ f * d + 1 = fields-append (elements d f) (elements 1 1) ∙ ap₂ ◌+◌ (fields-elements d f) (fields-elements 1 1) in
    ends_copies c l i (rw size h) ∙ rw size (inside d f (i % (f * d + 1)) p (mod-lt i (omega arith)))
