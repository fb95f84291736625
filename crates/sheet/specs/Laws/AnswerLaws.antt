-- Laws of the reader's answer.
--     refusal_first, refusal_rest    tests in two lists, one after the other
--     Passed                         what a text that is not refused is known to be
--     count-refused, count_good      how many numbers a header gives
--     read-refused, read_sheet       the reader's promise, refused or not
--     read_is                        the promise fixes the answer
--     refused_read                   a refused result is that answer
use Rattle.std.specs.Prelude.{◌≡◌, Bool, true, false, cond, List, [], ◌∷◌, ◌++◌, length, ℤ, Result, Ok, Err, IsErrAnd}
use Rattle.std.proofs.Math.Path.{refl, sym, ap}
use Rattle.std.proofs.Common.{◌∙◌}
use Prim.Native.Nat.{ℕ, zero, suc, ◌≤◌, ◌<◌}
use native.Mathlib.Omega.{arith}
use borrow.Author.Tests.{eqb-true, eq-eqb, ne_eqb}
use Rattle.integers.specs.Over.{over}
use Rattle.integers.specs.Laws.OverLaws.{over-all}
use Rattle.residues.specs.Range.{coefficients}
use Rattle.fold.specs.declared.answers.Refusal.{Refusal}
use Rattle.fold.specs.Rows.{row_of}
use Rattle.fold.specs.Laws.ResultLaws.{row_nonzero}
use Rattle.fold.specs.Arguments.{VerifySized}
use Rattle.fold.specs.Answers as answer
use Rattle.fold.specs.Answers.{kind_of, number_of, first_failing, answered, written}
use Rattle.fold.specs.Laws.RefusalLaws.{Passes, refusal_passes, passes_refusal, passes-front, passes-back, passes-join}
use Rattle.fold.specs.declared.Sizes.{Sizes}
use Rattle.sheet.specs.declared.header.SheetSizes.{SheetSizes}
use Rattle.sheet.specs.SheetAnswer.{SheetAnswer}
use Rattle.sheet.specs.SheetAnswer.{Sheet, Refused, read_of}
use Rattle.fields.specs.declared.sizes.Sections.{Sections}
use Rattle.fields.specs.Sections.{Sectioned, total, ends_line}
use Rattle.fields.specs.Place.{numbers_from}
use Rattle.sheet.specs.Laws.HeaderLaws.{header-bounded}
use Rattle.sheet.specs.Reading.{header_laid, header_numbers, header_tests, sizes_of, sheet_sizes_of, body_laid, body_numbers, front_tests, number_count, number_tests, body_tests}
use Rattle.sheet.specs.Reading.{reading_tests, sheet_if, reading, answer_of, header_of, header_if, reading_refusal, SheetRead}
use Rattle.sheet.specs.Known.Reading.{Inside}
use Rattle.sheet.specs.Laws.ReadingLaws.{body-within, all-numbers}
use Rattle.sheet.specs.Laws.BodyLaws.{body-total}
use Rattle.sheet.specs.Laws.SheetLaws.{length-body}
use Rattle.fields.specs.Field.{header_bytes}

-- every row has a number above 0
pub row_positive : (r : Refusal) → 0 < row_of r
row_positive r = step (row_of r) (row_nonzero r)
  where
    step : (n : ℕ) → (n ≡ 0 → ⊥) → 0 < n
    step zero some = absurd (some refl)
    step (suc n) some = omega arith

-- ---- two lists of tests, one after the other

pub refusal_first : (xs ys : List (ℕ × Bool)) → 0 < first_failing xs → first_failing xs ≡ first_failing (xs ++ ys)
unfolding first_failing
refusal_first [] ys h = let never : ⊥ = omega arith in absurd never
refusal_first (test ∷ tests) ys h = step test.1 (refusal_first tests ys) h
  where
    step : (t : Bool) → (0 < first_failing tests → first_failing tests ≡ first_failing (tests ++ ys)) → 0 < cond t (first_failing tests) test.0
        → cond t (first_failing tests) test.0 ≡ cond t (first_failing (tests ++ ys)) test.0
    step true rest h = rest h
    step false rest h = refl

pub refusal_rest : (xs ys : List (ℕ × Bool)) → Passes xs → first_failing (xs ++ ys) ≡ first_failing ys
unfolding first_failing
refusal_rest [] ys p = refl
refusal_rest (test ∷ tests) ys p = rw p.0 (refusal_rest tests ys p.1)

-- ---- the whole text

pub front-passes : (text : List ℕ) → first_failing (front_tests text) ≡ 0 → Passes (front_tests text)
unfolding header_tests
front-passes text e = refusal_passes (front_tests text) refl e

module _ (room : ℕ) (text : List ℕ) {header : ℕ} (e : header ≡ first_failing (front_tests text)) where
  pub refused-header : 0 < header → header ≡ first_failing (reading_tests room text)
  unfolding reading_tests
  refused-header h = e ∙ refusal_first (front_tests text) (body_tests room (sizes_of (header_numbers text)) text) (rw e at h)

  pub good_header : header ≤ 0 → {s : SheetSizes} → s ≡ sheet_sizes_of (header_numbers text) → VerifySized s.sizes
  good_header h q =
      let none : first_failing (front_tests text) ≡ 0 = omega (arith, e) in
      rw q (header-bounded (header_numbers text) (front-passes text none).1)

  pub rest_refusal : header ≤ 0 → {s : SheetSizes} → s ≡ sheet_sizes_of (header_numbers text) → {r : ℕ}
      → r ≡ first_failing (body_tests room s.sizes text) → r ≡ first_failing (reading_tests room text)
  unfolding reading_tests
  rest_refusal h q f =
      let none : first_failing (front_tests text) ≡ 0 = omega (arith, e) in
      f ∙ ap (λ (s : SheetSizes). first_failing (body_tests room s.sizes text)) q
      ∙ sym (refusal_rest (front_tests text) (body_tests room (sizes_of (header_numbers text)) text) (front-passes text none))

-- what a text that is not refused is known to be
pub record Passed (room : ℕ) (text : List ℕ) : Type 0 where
  pub header : header_laid text ≡ true
  pub sizes : Passes (header_tests (header_numbers text))
  pub lines : body_laid (sizes_of (header_numbers text)) text ≡ true
  pub fits : room ≡ total (sizes_of (header_numbers text))
  pub numbers : Passes (number_tests (sizes_of (header_numbers text)) (body_numbers (sizes_of (header_numbers text)) text))

pub reading-passed : (room : ℕ) (text : List ℕ) → first_failing (reading_tests room text) ≡ 0 → Passed room text
unfolding reading_tests header_tests body_tests number_tests
reading-passed room text e =
    let p = refusal_passes (front_tests text ++ body_tests room (sizes_of (header_numbers text)) text) refl e in
    let front = passes-front (front_tests text) (body_tests room (sizes_of (header_numbers text)) text) p in
    let (lines, (fits, numbers)) = passes-back (front_tests text) (body_tests room (sizes_of (header_numbers text)) text) p in
    record {
      header = front.0;
      sizes = front.1;
      lines = lines;
      fits = eqb-true room (total (sizes_of (header_numbers text))) fits;
      numbers = numbers;
    }

pub passed-reading : (room : ℕ) (text : List ℕ) → Passed room text → first_failing (reading_tests room text) ≡ 0
unfolding reading_tests body_tests
passed-reading room text p =
    passes_refusal (reading_tests room text)
    (passes-join (front_tests text) (body_tests room (sizes_of (header_numbers text)) text) (p.header, p.sizes)
    (p.lines, (eq-eqb room (total (sizes_of (header_numbers text))) p.fits, p.numbers)))

-- ---- how many numbers

module _ (text : List ℕ) {header : ℕ} (e : header ≡ first_failing (front_tests text)) where
  pub count-refused : 0 < header → 0 ≡ number_count text
  unfolding number_count
  count-refused h = rw (← e, ne_eqb header 0 (λ f. omega arith)) refl

  pub count_good : header ≤ 0 → {s : SheetSizes} {m : ℕ} → s ≡ sheet_sizes_of (header_numbers text) → m ≡ total s.sizes → m ≡ number_count text
  unfolding number_count
  count_good h q f = let none : header ≡ 0 = omega arith in f ∙ rw (← e, eq-eqb header 0 none, q) refl

-- ---- the reader's promise

-- numbers written over all of the slice
pub stored : (s : Sizes) (text : List ℕ) (q : Sections) (i : Inside s text) (e : Sectioned s q) {count : ℕ} (c : count ≡ total s)
    (before : List ℤ) {after : List ℤ} → length before ≡ total s
    → after ≡ over before 0 (numbers_from (ends_line q) header_bytes text 0 count) → after ≡ body_numbers s text
stored s text q i e c before fits f =
    let numbers = all-numbers i e c in
    let size : length (body_numbers s text) ≡ length before = length-body s i.bounded.shaped.degree.positive text ∙ body-total s ∙ sym fits in
    f ∙ rw numbers (over-all before (body_numbers s text) size)

module _ (text : List ℕ) (before : List ℤ) where
  promised : (n : ℕ) → reading_refusal text before ≡ n → {read : SheetAnswer} {after : List ℤ}
      → answer_of read ≡ answered n answer.Written → header_of read ≡ header_if n (sheet_sizes_of (header_numbers text))
      → after ≡ written n (body_numbers (sizes_of (header_numbers text)) text) before → SheetRead text before read after
  promised n q a h w = record { answer-is = rw q a; header_is = rw q h; numbers_are = rw q w }

  module _ {r : ℕ} (e : r ≡ reading_refusal text before) where
    pub read-refused : 0 < r → SheetRead text before (Refused r) before
    unfolding answered written
    read-refused h = step r h (sym e)
      where
        step : (n : ℕ) → 0 < n → reading_refusal text before ≡ n → SheetRead text before (Refused n) before
        step zero h q = let never : ⊥ = omega arith in absurd never
        step (suc n) h q = promised (suc n) q refl refl refl

    module _ (h : r ≤ 0) {s : SheetSizes} (q : s ≡ sheet_sizes_of (header_numbers text)) where
      none : reading_refusal text before ≡ 0
      none = omega (arith, e)

      passed : Passed (length before) text
      passed = reading-passed (length before) text none

      pub read_sheet : {after : List ℤ} → after ≡ body_numbers s.sizes text → SheetRead text before (Sheet s) after
      unfolding answered written
      read_sheet w = promised 0 none refl q (w ∙ ap (λ (s : SheetSizes). body_numbers s.sizes text) q)

      pub sheet_inside : Inside s.sizes text
      sheet_inside =
          rw q (record {
            bounded = header-bounded (header_numbers text) passed.sizes;
            inside = body-within
                (sizes_of (header_numbers text)) text passed.lines;
          })

      pub sheet_coefficients : coefficients (body_numbers s.sizes text) ≡ true
      unfolding number_tests
      sheet_coefficients = rw q passed.numbers.0

      pub sheet_fits : length before ≡ total s.sizes
      sheet_fits = rw q passed.fits

pub read_is : (text : List ℕ) (before : List ℤ) {read : SheetAnswer} {after : List ℤ} → SheetRead text before read after
    → read ≡ reading (length before) text
unfolding reading answered
read_is text before {read} p = step (reading_refusal text before) read p.answer-is p.header_is
  where
    step : (n : ℕ) (read : SheetAnswer) → answer_of read ≡ answered n answer.Written
        → header_of read ≡ header_if n (sheet_sizes_of (header_numbers text)) → read ≡ sheet_if n (sheet_sizes_of (header_numbers text))
    step zero (Sheet s) a h = ap Sheet h
    step zero (Refused m) a h = let f : ◌≡◌ {A = ℕ} 2 3 = ap kind_of a in absurd (omega arith)
    step (suc n) (Refused m) a h = ap Refused (ap number_of a)
    step (suc n) (Sheet s) a h = let f : ◌≡◌ {A = ℕ} 3 2 = ap kind_of a in absurd (omega arith)

-- a result that hands a refusal on
pub refused_read : (r : Result SheetSizes Refusal) (e : Refusal) → IsErrAnd r (λ x. x ≡ e) → read_of r ≡ Refused (row_of e)
refused_read (Ok s) e told = absurd told
refused_read (Err x) e told = ap (λ y. Refused (row_of y)) told
