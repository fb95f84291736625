-- Laws of the tests of the lines after the header and of their numbers, as the reader's functions form them.
--     front-span, later-span, body-part    some of the numbers after the header
use Rattle.std.specs.Prelude.{◌≡◌, Bool, true, false, cond, not, List, ℕ, ◌+◌, ◌*◌, ◌≤◌, ◌<◌, eqb, length, take, drop, ℤ, Option, Some}
use Rattle.std.specs.Option.{option_eq}
use Rattle.std.proofs.Math.Path.{refl, sym, ap}
use Rattle.std.proofs.Common.{◌∙◌, arith}
use Rattle.std.proofs.Math.Nat.{zero-add}
use borrow.Author.Tests.{eqb-true, eq-eqb, ne_eqb, not-true, not-false}
use Rattle.residues.proofs.Laws.RangeLaws.{coefficients-part}
use Rattle.residues.specs.Range.{coefficients, projection_entries}
use Rattle.fold.specs.Arguments.{VerifySized}
use Rattle.fold.specs.Answers.{first_failing}
use Rattle.fold.specs.Refusals.{challenges, projection_length}
use Rattle.fold.specs.declared.Sizes.{Sizes}
use Rattle.fields.specs.declared.sizes.Sections.{Sections}
use Rattle.fields.specs.Sections.{Sectioned, sections_of, term_size, row_count, last_count, total, projections_from, challenges_from, ends_line}
use Rattle.fields.specs.Place.{place, laid, end_if, numbers_from, Span}
use Rattle.fields.specs.Laws.PlaceLaws.{contradiction, place_mono}
use Rattle.fields.specs.Laws.ChallengeLaws.{numbers-part}
use Rattle.sheet.specs.Reading.{body_laid, body_numbers, projections_in, challenges_in, number_tests, body_tests}
use Rattle.sheet.specs.Known.Reading.{Inside}
use Rattle.fields.specs.Field.{header_bytes}

pub lines-positive : {s : Sizes} {q : Sections} → VerifySized s → Sectioned s q → (0 < q.d) × (0 < q.period)
unfolding sections_of term_size
lines-positive b e = (rw e.is b.shaped.degree.positive, rw e.is (omega arith))

module _ {s : Sizes} {text : List ℕ} {q : Sections} (i : Inside s text) (e : Sectioned s q) where
  -- the first m numbers
  pub front-span : (m : ℕ) → m ≤ total s → Span (ends_line q) text 0 header_bytes m
  unfolding place
  front-span m h = record {
    is = refl;
    inside = rw (e.is, zero-add m) (omega (arith, i.inside, place_mono (ends_line (sections_of s)) header_bytes m (total s) h));
  }

  -- c numbers after them
  pub later-span : (m c : ℕ) {start : ℕ} → m + c ≤ total s → start ≡ place (ends_line q) header_bytes (0 + m) → Span (ends_line q) text m start c
  later-span m c h p = record {
    is = p ∙ ap (place (ends_line q) header_bytes) (zero-add m);
    inside = rw e.is (omega (arith, i.inside, place_mono (ends_line (sections_of s)) header_bytes (m + c) (total s) h));
  }

  pub body-part : (m c : ℕ) → m + c ≤ total s → take c (drop m (body_numbers s text)) ≡ numbers_from (ends_line q) header_bytes text m c
  unfolding body_numbers
  body-part m c h =
      rw e.is (numbers-part (ends_line (sections_of s)) text 0 (total s) m c h
      ∙ ap (λ (x : ℕ). numbers_from (ends_line (sections_of s)) header_bytes text x c) (zero-add m))

  pub body-coefficients : (m c : ℕ) → m + c ≤ total s → coefficients (body_numbers s text) ≡ true
      → coefficients (numbers_from (ends_line q) header_bytes text m c) ≡ true
  body-coefficients m c h t = rw (← body-part m c h) (coefficients-part m c (body_numbers s text) t)

  pub all-numbers : {count : ℕ} → count ≡ total s → numbers_from (ends_line q) header_bytes text 0 count ≡ body_numbers s text
  unfolding body_numbers
  all-numbers c = rw (e.is, c) refl

pub projections-end : (s : Sizes) → projections_from s + projection_length s.shape.d s.shape.n s.shape.r s.w ≤ total s
unfolding projections_from total projection_length row_count
projections-end s = omega arith

pub challenges-end : (s : Sizes) → challenges_from s + s.shape.r * s.shape.d ≤ total s
unfolding challenges_from total last_count
challenges-end s = omega arith

pub body-within : (s : Sizes) (text : List ℕ) → body_laid s text ≡ true → place (ends_line (sections_of s)) header_bytes (total s) ≤ length text
unfolding body_laid
body-within s text e = step (laid (ends_line (sections_of s)) header_bytes text (total s)) e
  where
    step : (t : Bool) → cond t (eqb (place (ends_line (sections_of s)) header_bytes (total s)) (length text)) false ≡ true
        → place (ends_line (sections_of s)) header_bytes (total s) ≤ length text
    step true q = omega (arith, eqb-true (place (ends_line (sections_of s)) header_bytes (total s)) (length text) q)
    step false q = contradiction q refl

module _ (s : Sizes) (text : List ℕ) (q : Sections) (e : Sectioned s q) {count : ℕ} (c : count ≡ total s) {end : Option ℕ}
    (l : end ≡ end_if (laid (ends_line q) header_bytes text count) (place (ends_line q) header_bytes count)) where
  ends_is : (t : Bool) (p n : ℕ) → option_eq eqb (end_if t p) (Some n) ≡ cond t (eqb p n) false
  ends_is true p n = refl
  ends_is false p n = refl

  -- the text ends where its last line does
  pub laid-is : option_eq eqb end (Some (length text)) ≡ body_laid s text
  unfolding body_laid
  laid-is = rw (l, ends_is (laid (ends_line q) header_bytes text count) (place (ends_line q) header_bytes count) (length text), e.is, c) refl

  pub laid-inside : VerifySized s → body_laid s text ≡ true → Inside s text
  laid-inside b t = record { bounded = b; inside = body-within s text t }
