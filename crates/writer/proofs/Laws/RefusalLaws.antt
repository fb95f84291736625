-- Laws of the writer's tests, as its functions make them.
--     rows_inside, challenges-inside, rows_are, challenges_are    the projection rows and the challenges among the numbers
--     good_sizes, refused-header, refused_slice, last_refusal     all tests, one after the other
--     bytes_refused, bytes_good                                   `sheet_bytes`
--     write_refused, written-counted, written-room, write_done    the writer's promise, refused or not
use Rattle.std.specs.Prelude.{◌≡◌, Result, Ok, Err, IsErrAnd, leb, length, take, drop, ℤ}
use Rattle.std.proofs.Math.Path.{refl, sym}
use Rattle.std.proofs.Common.{ap, ◌∙◌}
use mathlib.Core.List.{List, [], ◌∷◌}
use Prim.Native.Nat.{ℕ, zero, suc, ◌+◌, ◌*◌, ◌-◌, ◌≤◌, ◌<◌}
use native.Mathlib.Omega.{arith}
use borrow.Author.Tests.{eq-eqb, ne_eqb}
use Rattle.integers.specs.Over.{over}
use Rattle.residues.specs.Range.{coefficients, projection_entries}
use Rattle.fold.specs.declared.answers.Refusal.{Refusal}
use Rattle.fold.specs.Rows.{row_of}
use Rattle.fold.specs.Answers as answer
use Rattle.fold.specs.Answers.{first_failing, answered, written}
use Rattle.fold.specs.Arguments.{VerifySized}
use Rattle.fold.specs.Laws.RefusalLaws.{refusal_passes}
use Rattle.fold.specs.Refusals.{challenges, projection_length}
use Rattle.fold.specs.Sizes.{z_count}
use Rattle.fold.specs.declared.Sizes.{Sizes}
use Rattle.fields.specs.Sections.{total, projections_from, challenges_from}
use Rattle.limits.specs.Bounds.{next_bounds_of}
use Rattle.limits.specs.Known.StageLimits.{next-sized}
use Rattle.sheet.specs.declared.header.SheetSizes.{SheetSizes}
use Rattle.sheet.specs.Reading.{header_tests, number_tests, slice_tests, projections_in, challenges_in, sizes_of, sheet_sizes_of}
use Rattle.sheet.specs.Layout.{SheetNumbers}
use Rattle.sheet.specs.Laws.AnswerLaws.{refusal_first, refusal_rest}
use Rattle.sheet.specs.Laws.HeaderLaws.{header-sizes, header-bounded}
use Rattle.sheet.specs.Laws.ListLaws.{rows-part, challenges-part}
use Rattle.sheet.specs.Laws.ReadingLaws.{projections-end, challenges-end}
use Rattle.writer.specs.WriteAnswer.{WriteAnswer}
use Rattle.writer.specs.WriteAnswer.{Length, Refused, wrote_of}
use Rattle.writer.specs.Writing.{header_fields, written_text, text_bytes, sheet_bytes, writing_tests, writing_refusal}
use Rattle.writer.specs.Writing.{answer_of, length_of, length_if, SheetWritten}
use Rattle.writer.specs.Known.Writing.{Counted}
use Rattle.writer.proofs.Laws.LengthLaws.{sizes-back, sizes-given, text-length}
use Rattle.writer.proofs.Laws.AnswerLaws.{all_number_tests, numbers-passed, count-total, early-first, room_refusal, writing_passed}

-- ---- the lists of rows 9 and 10

module _ (s : Sizes) (xs : List ℤ) where
  module _ (c : Counted s xs) {start count : ℕ} where
    pub rows_inside : start ≡ projections_from s → count ≡ projection_length s.shape.d s.shape.n s.shape.r s.w
        → start + count ≤ length xs
    rows_inside e f = omega (arith, projections-end s, c.count)

    pub challenges-inside : start ≡ challenges_from s → count ≡ s.shape.r * s.shape.d → start + count ≤ length xs
    challenges-inside e f = omega (arith, challenges-end s, c.count)

  pub rows_are : {start count : ℕ} → start ≡ projections_from s → count ≡ projection_length s.shape.d s.shape.n s.shape.r s.w
      → take (start + count - start) (drop start xs) ≡ projections_in s xs
  rows_are {start} {count} e f =
      let same : start + count - start ≡ count = omega arith in
      rw (same, e, f) (sym (rows-part s xs))

  pub challenges_are : {start count : ℕ} → start ≡ challenges_from s → count ≡ s.shape.r * s.shape.d
      → take (start + count - start) (drop start xs) ≡ challenges_in s xs
  challenges_are {start} {count} e f =
      let same : start + count - start ≡ count = omega arith in
      rw (same, e, f) (sym (challenges-part s xs))

-- ---- all tests

module _ (room : ℕ) (h : SheetSizes) (xs : List ℤ) {header : ℕ} (e : header ≡ first_failing (next_bounds_of z_count h.sizes h.nu h.mu)) where
  header_is : header ≡ first_failing (header_tests (header_fields h))
  header_is = e ∙ ap first_failing (sym same ∙ header-sizes (header_fields h))
    where
      same : next_bounds_of z_count (sizes_of (header_fields h)) (sheet_sizes_of (header_fields h)).nu (sheet_sizes_of (header_fields h)).mu
          ≡ next_bounds_of z_count h.sizes h.nu h.mu
      same = ap (λ (t : SheetSizes). next_bounds_of z_count t.sizes t.nu t.mu) (sizes-back h)

  pub good_sizes : header ≤ 0 → VerifySized h.sizes
  good_sizes none = next-sized z_count h.sizes h.nu h.mu refl (sym e ∙ omega (arith, none))

  pub refused-header : 0 < header → header ≡ first_failing (writing_tests room h xs)
  refused-header some =
      let first = refusal_first (header_tests (header_fields h)) (slice_tests (length xs) h.sizes xs) (rw header_is at some) in
      header_is ∙ first ∙ early-first room h xs (omega (arith, header_is, first, some))

  module _ (none : header ≤ 0) {slice : ℕ} (f : slice ≡ first_failing (slice_tests (length xs) h.sizes xs)) where
    numbers_are : first_failing (all_number_tests h xs) ≡ slice
    unfolding header_tests
    numbers_are =
        refusal_rest (header_tests (header_fields h)) (slice_tests (length xs) h.sizes xs)
        (refusal_passes (header_tests (header_fields h)) refl (sym header_is ∙ omega (arith, none))) ∙ sym f

    pub refused_slice : 0 < slice → slice ≡ first_failing (writing_tests room h xs)
    refused_slice some = sym numbers_are ∙ early-first room h xs (omega (arith, numbers_are, some))

    pub last_refusal : slice ≤ 0 → {bytes r : ℕ} → bytes ≡ text_bytes h.sizes → r ≡ first_failing ((13, leb bytes room) ∷ [])
        → r ≡ first_failing (writing_tests room h xs)
    unfolding first_failing
    last_refusal few b g =
        let n = numbers-passed h xs (numbers_are ∙ omega (arith, few)) in
        g ∙ rw (b ∙ sym (text-length h xs (count-total h xs n))) refl ∙ sym (room_refusal room h xs n)

-- ---- the writer's promise

module _ (h : SheetSizes) (xs : List ℤ) (before : List ℕ) where
  promised : (n : ℕ) → writing_refusal h xs before ≡ n → {wrote : WriteAnswer} {after : List ℕ} → answer_of wrote ≡ answered n answer.Written
      → length_of wrote ≡ length_if n (length (written_text h xs)) → after ≡ written n (over before 0 (written_text h xs)) before
      → SheetWritten h xs before wrote after
  promised n q a l w = record { answer-is = rw q a; length-is = rw q l; bytes_are = rw q w }

  module _ {r : ℕ} (e : r ≡ writing_refusal h xs before) where
    pub write_refused : 0 < r → SheetWritten h xs before (Refused r) before
    unfolding answered written
    write_refused some = step r some (sym e)
      where
        step : (n : ℕ) → 0 < n → writing_refusal h xs before ≡ n → SheetWritten h xs before (Refused n) before
        step zero some q = let never : ⊥ = omega arith in absurd never
        step (suc n) some q = promised (suc n) q refl refl refl

    module _ (none : r ≤ 0) where
      none-refused : writing_refusal h xs before ≡ 0
      none-refused = omega (arith, e, none)

      passed : SheetNumbers (header_fields h) xs × (length (written_text h xs) ≤ length before)
      passed = writing_passed (length before) h xs none-refused

      pub written-counted : Counted h.sizes xs
      unfolding header_tests
      written-counted = record {
        bounded =
            rw (sizes-given h) at (header-bounded (header_fields h) (refusal_passes (header_tests (header_fields h)) refl passed.0.sizes));
        count = count-total h xs passed.0;
      }

      pub written-room : text_bytes h.sizes ≤ length before
      written-room = omega (arith, text-length h xs written-counted.count, passed.1)

      pub write_done : {bytes : ℕ} {after : List ℕ} → bytes ≡ text_bytes h.sizes → after ≡ over before 0 (written_text h xs)
          → SheetWritten h xs before (Length bytes) after
      unfolding answered written
      write_done b w = promised 0 none-refused refl (b ∙ sym (text-length h xs written-counted.count)) w

-- ---- how many bytes

module _ (h : SheetSizes) {header : ℕ} (e : header ≡ first_failing (next_bounds_of z_count h.sizes h.nu h.mu)) where
  pub bytes_refused : 0 < header → 0 ≡ sheet_bytes h
  unfolding sheet_bytes
  bytes_refused some = rw (← header_is 0 h [] e, ne_eqb header 0 (λ f. omega arith)) refl

  pub bytes_good : header ≤ 0 → {m : ℕ} → m ≡ text_bytes h.sizes → m ≡ sheet_bytes h
  unfolding sheet_bytes
  bytes_good none f = let zero-header : header ≡ 0 = omega arith in f ∙ rw (← header_is 0 h [] e, eq-eqb header 0 zero-header) refl

-- a result that hands a refusal on
pub refused_write : (r : Result ℕ Refusal) (e : Refusal) → IsErrAnd r (λ x. x ≡ e) → wrote_of r ≡ Refused (row_of e)
refused_write (Ok m) e told = absurd told
refused_write (Err x) e told = ap (λ y. Refused (row_of y)) told
