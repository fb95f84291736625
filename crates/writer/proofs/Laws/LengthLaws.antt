-- How long the text of numbers is.
--     line-length, lines-length    of one line, and of numbers on lines
--     body-length                  of the lines after the header, with the header's: `text_bytes`
--     length_fields                a header has 18 numbers
--     sizes-back, sizes-given      they give the header back, and the sizes in it
--     text-length                  of the whole text
--     lines-most, bytes_most       at most, within the limits of the sizes
--     fields-place, place_end      the text of numbers ends at the place after them, and that is `text_bytes` after the last
use Rattle.std.specs.Prelude.{◌≡◌, Bool, List, [], ◌∷◌, ◌++◌, ℕ, zero, suc, ◌+◌, ◌*◌, ◌≤◌, ◌<◌, get_or, take, drop, ℤ, pos, nat_abs}
use Rattle.std.proofs.Math.Path.{refl, sym, ap}
use Rattle.std.proofs.Common.{◌∙◌, zero-mul, suc-mul, mul-one, length-append, length-take, length-drop}
use Rattle.std.proofs.Math.Nat.{mul-le-mul}
use native.Mathlib.Omega.{arith}
use Rattle.std.proofs.Math.ListN.{length}
use Rattle.integers.specs.Lists.{tab}
use Rattle.integers.specs.Flat.{flat}
use Rattle.integers.specs.Laws.ListLaws.{length-tab}
use Rattle.integers.specs.Laws.FlatLaws.{length-flat}
use Rattle.fold.specs.Arguments.{VerifySized}
use Rattle.fold.specs.declared.Sizes.{Sizes}
use Rattle.fields.specs.Field.{negative, field_text, header_bytes}
use Rattle.fields.specs.Laws.FieldLaws.{length_field}
use Rattle.fields.specs.Sections.{matrix_count, whole_count, row_count, last_count, term_size, ones_count, sections_of, total, ends_line}
use Rattle.fields.specs.Laws.SectionLaws.{le-one, function-few, opening-few, matrices_few}
use Rattle.fields.specs.Place.{feed, line_fields, place}
use Rattle.sheet.specs.declared.header.SheetSizes.{SheetSizes}
use Rattle.sheet.specs.Reading.{size, sizes_of, sheet_sizes_of}
use Rattle.sheet.specs.Layout.{copies, elements, fields, body_lines, line_text, text_of, sheet_text}
use Rattle.sheet.specs.Laws.BodyLaws.{term_part, middle_part, body_merged, body-total}
use Rattle.sheet.specs.Laws.SheetLaws.{body-fields}
use Rattle.writer.specs.Writing.{header_words, header_fields, written_text, element_lines, text_bytes}
use Rattle.fields.specs.Laws.WriteLaws.{length-laid}

-- ---- numbers on lines

pub line-length : (xs : List ℤ) → length (line_text xs) ≡ 16 * length xs + 1
unfolding line_text
line-length xs =
    let F : ℕ → List ℕ = λ i. field_text (get_or xs i (pos 0)) in
    omega (arith, length-append (flat (length xs) F) (10 ∷ []), length-flat (length xs) 16 F (λ i h. length_field (get_or xs i (pos 0))))

lines-length : (ws : List ℕ) (xs : List ℤ) → length xs ≡ fields ws → length (text_of ws xs) ≡ 16 * fields ws + length ws
unfolding text_of fields
lines-length [] xs e = omega arith
lines-length (w ∷ ws) xs e =
    omega (
      arith,
      length-append (line_text (take w xs)) (text_of ws (drop w xs)),
      line-length (take w xs),
      length-take w xs,
      lines-length ws (drop w xs) (omega (arith, length-drop w xs)),
    )

-- ---- the lines after the header

length-copies : (c : ℕ) (l : List ℕ) → length (copies c l) ≡ c * length l
unfolding copies
length-copies zero l = sym (zero-mul (length l))
length-copies (suc c) l = omega (arith, length-append l (copies c l), length-copies c l, suc-mul c (length l))

length-elements : (d c : ℕ) → length (elements d c) ≡ c
unfolding elements
length-elements d c = length-copies c (d ∷ []) ∙ mul-one c

module _ (s : Sizes) where
  open s use {l, w}

  -- "6·(L + w)" lines of one number, beside those of d numbers
  line-count : length (body_lines s) ≡ element_lines s + 6 * (l + w)
  unfolding term_part middle_part element_lines ones_count
  line-count =
      ap length (body_merged s) ∙ simp (length-append, length-copies, length-elements) (omega arith)

  body-length : (xs : List ℤ) → length xs ≡ total s → header_bytes + length (text_of (body_lines s) xs) ≡ text_bytes s
  unfolding text_bytes total term_size element_lines ones_count
  body-length xs e =
      omega (arith, lines-length (body_lines s) xs (e ∙ sym (body-total s)), line-count, body-total s)

-- ---- the whole text

pub length_fields : (h : SheetSizes) → length (header_fields h) ≡ 18
unfolding header_fields header_words
length_fields h = refl

pub sizes-back : (h : SheetSizes) → sheet_sizes_of (header_fields h) ≡ h
unfolding header_fields header_words sizes_of size
sizes-back h = refl

pub sizes-given : (h : SheetSizes) → sizes_of (header_fields h) ≡ h.sizes
unfolding header_fields header_words sizes_of size
sizes-given h = refl

pub text-length : (h : SheetSizes) (xs : List ℤ) → length xs ≡ total h.sizes → length (written_text h xs) ≡ text_bytes h.sizes
unfolding written_text sheet_text
text-length h xs e =
    rw (sizes-given h)
    (omega (
      arith,
      length-append (line_text (header_fields h)) (text_of (body_lines h.sizes) xs),
      line-length (header_fields h),
      length_fields h,
      body-length h.sizes xs e,
    ))

-- ---- at most

module _ (s : Sizes) (b : VerifySized s) where
  pub lines-most : element_lines s ≤ 1350890
  unfolding element_lines matrix_count whole_count row_count last_count
  lines-most =
      omega (
        arith,
        matrices_few s b refl refl refl,
        mul-le-mul b.K-small (le-one (function-few s b refl)),
        mul-le-mul b.L-small (function-few s b refl),
        mul-le-mul b.w-small (mul-le-mul b.shaped.parts-small b.shaped.rank-small),
        b.shaped.parts-small,
        b.K-small,
        b.κ₁-small,
        b.κ₂-small,
        opening-few s b refl,
      )

  -- "at most 1384691915 within the limits of the sizes"
  pub bytes_most : text_bytes s ≤ 1384691915
  unfolding text_bytes
  bytes_most =
      let line : 16 * s.shape.d + 1 ≤ 1025 = omega (arith, b.shaped.degree.small) in
      omega (arith, mul-le-mul line lines-most, b.L-small, b.w-small)

-- ---- by place

pub fields-place : (ends : ℕ → Bool) (x : ℕ → ℤ) (at n : ℕ) → at + length (line_fields ends x n) ≡ place ends at n
unfolding line_fields flat place field_text
fields-place ends x at zero = omega arith
fields-place ends x at (suc n) =
    let F : ℕ → List ℕ = λ i. field_text (x i) ++ feed (ends i) in
    omega (
      arith,
      length-append (flat n F) (F n),
      length-laid (negative (x n)) (nat_abs (x n)) (ends n),
      fields-place ends x at n,
    )

pub place_end : (s : Sizes) → 0 < s.shape.d → place (ends_line (sections_of s)) header_bytes (total s) ≡ text_bytes s
place_end s p =
    let xs : List ℤ = tab (total s) (λ i. pos 0) in
    let e : length xs ≡ total s = length-tab (total s) (λ i. pos 0) in
    sym (fields-place (ends_line (sections_of s)) (λ i. get_or xs i (pos 0)) header_bytes (total s))
    ∙ ap (λ (l : List ℕ). header_bytes + length l) (sym (body-fields s p xs (e ∙ sym (body-total s))))
    ∙ body-length s xs e
