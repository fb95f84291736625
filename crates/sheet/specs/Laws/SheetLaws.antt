-- A text whose lines are laid is the text of its numbers, and the text of numbers that fit is laid and gives them back:
-- for the header's line, and for the lines after it.
use Rattle.std.specs.Prelude.{◌≡◌, refl, Bool, true, ℕ, zero, suc, ◌*◌, ◌≤◌, ◌<◌, take, drop, ℤ, pos, Option, None, Some, is_some, unwrap_or}
use Rattle.std.proofs.Math.Path.{sym, ap}
use Rattle.std.proofs.Common.{ap₂, ◌∙◌, zero-add}
use mathlib.Core.List.{List, [], ◌++◌, append-nil}
use native.Mathlib.Omega.{arith}
use Rattle.std.proofs.Math.Dec.{eqb}
use Rattle.std.proofs.Math.ListN.{length, get_or, length-drop}
use Rattle.std.proofs.Math.Seq.{drop-length, ext_get_or}
use borrow.Author.Tests.{eqb-true, eq-eqb}
use Rattle.integers.specs.Laws.AllLaws.{both_left, both_right}
use Rattle.integers.specs.Laws.ListLaws.{length-tab, get_d_tab}
use Rattle.integers.specs.Laws.Bridge.{zarith, nat_abs_pn}
use Rattle.ring.specs.Laws.ElementEquality.{every_true}
use Rattle.residues.specs.Range.{coefficients}
use Rattle.residues.proofs.Laws.RangeLaws.{coefficients-at}
use Rattle.fold.specs.declared.Sizes.{Sizes}
use Rattle.fields.specs.Field.{Fits16, header_bytes}
use Rattle.fields.specs.Fields.{read_field, field_at}
use Rattle.fields.specs.Laws.FieldLaws.{read_fits}
use Rattle.fields.specs.Sections.{sections_of, total, ends_line}
use Rattle.fields.specs.Place.{place, line_fields, laid_field, laid, number_at}
use Rattle.fields.specs.Laws.PlaceLaws.{contradiction, laid_field-number, laid_field-fits, laid-suc}
use Rattle.fields.specs.Laws.WalkLaws.{length-numbers, number_of}
use Rattle.sheet.specs.Reading.{header_sections, header_laid, header_numbers, body_laid, body_numbers}
use Rattle.sheet.specs.Layout.{fields, body_lines, line_text, text_of, AllFit}
use Rattle.sheet.specs.Laws.TextLaws.{laid-text, text-held}
use Rattle.sheet.specs.Laws.LayoutLaws.{ends_of, fields_cong, line-fields, text-fields}
use Rattle.sheet.specs.Laws.BodyLaws.{body-total, body-positive}
use Rattle.sheet.specs.Laws.EndLaws.{body_ends, header_ends, header-place, header-end}

-- a number that was read fits
number_fits : (text : List ℕ) (p : ℕ) → is_some (field_at text p) ≡ true → Fits16 (number_at text p)
unfolding field_at number_at
number_fits text p e = step (read_field (take 16 (drop p text))) refl e
  where
    step : (f : Option ℤ) → read_field (take 16 (drop p text)) ≡ f → is_some f ≡ true → Fits16 (unwrap_or f (pos 0))
    step (Some z) q e = read_fits (take 16 (drop p text)) z q
    step None q e = contradiction e refl

laid-at : (ends : ℕ → Bool) (at : ℕ) (text : List ℕ) (n : ℕ) → laid ends at text n ≡ true → (i : ℕ) → i < n
    → laid_field text (place ends at i) (ends i) ≡ true
unfolding laid
laid-at ends at text n e i h = every_true n _ e i h

laid-fits : (ends : ℕ → Bool) (at : ℕ) (text : List ℕ) (n : ℕ) → laid ends at text n ≡ true → (i : ℕ) → i < n
    → Fits16 (number_at text (place ends at i))
laid-fits ends at text n e i h =
    number_fits text (place ends at i) (laid_field-number text (place ends at i) (ends i) (laid-at ends at text n e i h))

place_inside : (ends : ℕ → Bool) (at : ℕ) (text : List ℕ) (n : ℕ) → laid ends at text n ≡ true → at ≤ length text
    → place ends at n ≤ length text
unfolding place
place_inside ends at text zero e h = h
place_inside ends at text (suc n) e h =
    laid_field-fits text (place ends at n) (ends n)
    (both_right (laid ends at text n) (laid_field text (place ends at n) (ends n)) (sym (laid-suc ends at text n) ∙ e))

-- ---- the header's line

pub length-header : (text : List ℕ) → length (header_numbers text) ≡ 18
unfolding header_numbers
length-header text = length-tab 18 (λ k. number_at text (16 * k))

header-number : (text : List ℕ) (i : ℕ) → i < 18 → get_or (header_numbers text) i (pos 0) ≡ number_at text (place (ends_line header_sections) 0 i)
unfolding header_numbers
header-number text i h =
    get_d_tab 18 (λ k. number_at text (16 * k)) i (pos 0) h ∙ ap (number_at text) (sym (header-place i (omega arith)))

pub header-fields : (h : List ℤ) → length h ≡ 18 → line_text h ≡ line_fields (ends_line header_sections) (λ i. get_or h i (pos 0)) 18
header-fields h e =
    line-fields h 17 e
    ∙ fields_cong (λ i. eqb (suc i) 18) (ends_line header_sections) (λ i. get_or h i (pos 0)) (λ i. get_or h i (pos 0)) 18 header_ends (λ i k. refl)

pub header-text : (text : List ℕ) → header_laid text ≡ true → text ≡ line_text (header_numbers text) ++ drop header_bytes text
unfolding header_laid
header-text text e =
    laid-text (ends_line header_sections) 0 text 18 e
    ∙ ap₂ ◌++◌
    (fields_cong (ends_line header_sections) (ends_line header_sections) _ (λ i. get_or (header_numbers text) i (pos 0)) 18 (λ i h. refl)
    (λ i h. sym (header-number text i h))
    ∙ sym (header-fields (header_numbers text) (length-header text)))
    (ap (λ (k : ℕ). drop k text) header-end)

pub header-fit : (text : List ℕ) → header_laid text ≡ true → AllFit (header_numbers text)
unfolding header_laid
header-fit text e i h =
    let small : i < 18 = omega (arith, length-header text) in
    rw (header-number text i small) (laid-fits (ends_line header_sections) 0 text 18 e i small)

same_numbers : (text : List ℕ) (h : List ℤ)
    → ((i : ℕ) → i < 18 → number_at text (place (ends_line header_sections) 0 i) ≡ get_or h i (pos 0))
    → (i : ℕ) → i < length (header_numbers text) → get_or (header_numbers text) i (pos 0) ≡ get_or h i (pos 0)
same_numbers text h e i k = let small : i < 18 = omega (arith, length-header text) in header-number text i small ∙ e i small

-- the text of a header that fits, with whatever follows
pub record HeaderRead (text : List ℕ) (h : List ℤ) (rest : List ℕ) : Type 0 where
  pub is-laid : header_laid text ≡ true
  pub numbers : header_numbers text ≡ h
  pub after : drop header_bytes text ≡ rest
  pub inside : header_bytes ≤ length text

pub header_read : (text : List ℕ) (h : List ℤ) (rest : List ℕ) → length h ≡ 18 → AllFit h → text ≡ line_text h ++ rest → HeaderRead text h rest
unfolding header_laid
header_read text h rest e fit t =
    let held = text-held (ends_line header_sections) 0 text (λ i. get_or h i (pos 0)) 18 rest (λ i k. fit i (omega arith))
    (t ∙ ap (λ (l : List ℕ). l ++ rest) (header-fields h e)) in
    record {
      is-laid = held.is-laid;
      numbers = ext_get_or (pos 0) (header_numbers text) h (length-header text ∙ sym e) (same_numbers text h held.number);
      after = ap (λ (k : ℕ). drop k text) (sym header-end) ∙ held.after;
      inside = omega (arith, header-end, place_inside (ends_line header_sections) 0 text 18 held.is-laid (omega arith));
    }

-- ---- the lines after the header

module _ (s : Sizes) (p : 0 < s.shape.d) where
  pub body-fields : (xs : List ℤ) → length xs ≡ fields (body_lines s)
      → text_of (body_lines s) xs ≡ line_fields (ends_line (sections_of s)) (λ i. get_or xs i (pos 0)) (total s)
  body-fields xs e =
      text-fields (body_lines s) xs (body-positive s p) e
      ∙ rw (body-total s)
      (fields_cong (ends_of (body_lines s)) (ends_line (sections_of s)) (λ i. get_or xs i (pos 0)) (λ i. get_or xs i (pos 0)) (total s)
      (λ i h. body_ends s i p h) (λ i h. refl))

  module _ (text : List ℕ) where
    pub length-body : length (body_numbers s text) ≡ fields (body_lines s)
    unfolding body_numbers
    length-body = length-numbers (ends_line (sections_of s)) text 0 (total s) ∙ sym (body-total s)

    body-number : (i : ℕ) → i < total s → get_or (body_numbers s text) i (pos 0) ≡ number_at text (place (ends_line (sections_of s)) header_bytes i)
    unfolding body_numbers
    body-number i h =
        number_of (ends_line (sections_of s)) text 0 (total s) i h
        ∙ ap (λ (k : ℕ). number_at text (place (ends_line (sections_of s)) header_bytes k)) (zero-add i)

    body-parts : body_laid s text ≡ true
        → (laid (ends_line (sections_of s)) header_bytes text (total s) ≡ true) × (place (ends_line (sections_of s)) header_bytes (total s) ≡ length text)
    unfolding body_laid
    body-parts e =
        let lines = laid (ends_line (sections_of s)) header_bytes text (total s) in
        let end = eqb (place (ends_line (sections_of s)) header_bytes (total s)) (length text) in
        (both_left lines end e, eqb-true (place (ends_line (sections_of s)) header_bytes (total s)) (length text) (both_right lines end e))

    pub body-text : body_laid s text ≡ true → drop header_bytes text ≡ text_of (body_lines s) (body_numbers s text)
    body-text e =
        let both = body-parts e in
        laid-text (ends_line (sections_of s)) header_bytes text (total s) both.0
        ∙ ap₂ ◌++◌
        (fields_cong (ends_line (sections_of s)) (ends_line (sections_of s)) _ (λ i. get_or (body_numbers s text) i (pos 0)) (total s) (λ i h. refl)
        (λ i h. sym (body-number i h))
        ∙ sym (body-fields (body_numbers s text) length-body))
        (ap (λ (k : ℕ). drop k text) both.1 ∙ drop-length text)
        ∙ append-nil (text_of (body_lines s) (body_numbers s text))

    pub body-fit : body_laid s text ≡ true → AllFit (body_numbers s text)
    body-fit e i h =
        let small : i < total s = omega (arith, length-body, body-total s) in
        rw (body-number i small) (laid-fits (ends_line (sections_of s)) header_bytes text (total s) (body-parts e).0 i small)

    same_body : (xs : List ℤ) → ((i : ℕ) → i < total s → number_at text (place (ends_line (sections_of s)) header_bytes i) ≡ get_or xs i (pos 0))
        → (i : ℕ) → i < length (body_numbers s text) → get_or (body_numbers s text) i (pos 0) ≡ get_or xs i (pos 0)
    same_body xs e i k = let small : i < total s = omega (arith, length-body, body-total s) in body-number i small ∙ e i small

    pub body-read : (xs : List ℤ) → header_bytes ≤ length text → length xs ≡ fields (body_lines s) → AllFit xs → drop header_bytes text ≡ text_of (body_lines s) xs
        → (body_laid s text ≡ true) × (body_numbers s text ≡ xs)
    unfolding body_laid
    body-read xs inside e fit t =
        let held = text-held (ends_line (sections_of s)) header_bytes text (λ i. get_or xs i (pos 0)) (total s) []
        (λ i k. fit i (omega (arith, e, body-total s)))
        (t ∙ body-fields xs e ∙ sym (append-nil (line_fields (ends_line (sections_of s)) (λ i. get_or xs i (pos 0)) (total s)))) in
        let end : place (ends_line (sections_of s)) header_bytes (total s) ≡ length text =
        omega (
          arith,
          place_inside (ends_line (sections_of s)) header_bytes text (total s) held.is-laid inside,
          ap length held.after,
          length-drop (place (ends_line (sections_of s)) header_bytes (total s)) text,
        ) in (
          rw held.is-laid (eq-eqb (place (ends_line (sections_of s)) header_bytes (total s)) (length text) end),
          ext_get_or (pos 0) (body_numbers s text) xs (length-body ∙ sym e) (same_body xs held.number),
        )

-- numbers in coefficient range fit
pub coefficients-fit : (xs : List ℤ) → coefficients xs ≡ true → AllFit xs
coefficients-fit xs e i h =
    let x = get_or xs i (pos 0) in
    let small = coefficients-at xs e i in
    record { least = omega (zarith, nat_abs_pn x, small); most = omega (zarith, nat_abs_pn x, small) }
