-- "the writer refuses what the reader would": SPECIFICATION 10.13. Numbers that have a text, and as many as the sizes give, are refused by the
-- writer and their text by the reader with the same of rows 1 to 10, or neither by any: `same_refusal`.
use Rattle.std.proofs.Math.Path.{◌≡◌, refl, sym}
use Rattle.std.proofs.Common.{ap, ◌∙◌, arith, eq-eqb}
use Rattle.std.specs.Prelude.{◌↔◌, List, length, ℤ}
use Prim.Native.Nat.{ℕ, zero, suc, ◌<◌}
use Rattle.fold.specs.declared.Sizes.{Sizes}
use Rattle.fold.specs.Answers.{first_failing}
use Rattle.fold.specs.Laws.RefusalLaws.{refusal_passes}
use Rattle.fields.specs.Sections.{total}
use Rattle.sheet.specs.declared.header.SheetSizes.{SheetSizes}
use Rattle.sheet.specs.SheetAnswer.{SheetAnswer}
use Rattle.sheet.specs.SheetAnswer.{Sheet}
use Rattle.sheet.specs.SheetAnswer as reader
use Rattle.sheet.specs.Reading.{header_tests, sizes_of, sheet_sizes_of, number_tests, slice_tests, reading, SheetRead}
use Rattle.sheet.specs.Layout.{fields, body_lines, text_of, sheet_text, AllFit, SheetNumbers}
use Rattle.sheet.specs.Laws.AnswerLaws.{read_is, refusal_first, refusal_rest}
use Rattle.sheet.specs.Laws.BodyLaws.{body-total}
use Rattle.sheet.specs.Theorems.SheetTheorems.{sheet_exactly, refused-header, refused-numbers}
use Rattle.writer.specs.WriteAnswer.{WriteAnswer}
use Rattle.writer.specs.WriteAnswer.{Refused}
use Rattle.writer.specs.Writing.{header_fields, written_text, writing_refusal, SheetWritten}
use Rattle.writer.proofs.Laws.LengthLaws.{sizes-given, length_fields}
use Rattle.writer.proofs.Laws.AnswerLaws.{is-refused, write_is, all_number_tests, early_refusal, room_alone}

module _ {h : SheetSizes} {xs : List ℤ} {before after : List ℕ} {wrote : WriteAnswer} {numbers numbers' : List ℤ} {read : SheetAnswer}
    (write : SheetWritten h xs before wrote after) (call : SheetRead (written_text h xs) numbers read numbers')
    (fit : AllFit (header_fields h)) (others-fit : AllFit xs) (count : length xs ≡ total h.sizes) (room : length numbers ≡ length xs) where
  both : (k : ℕ) → first_failing (all_number_tests h xs) ≡ suc k → reading (length numbers) (written_text h xs) ≡ reader.Refused (suc k)
      → (n : ℕ) → (wrote ≡ Refused n) ↔ (read ≡ reader.Refused n)
  both k e f n =
      let w : wrote ≡ Refused (suc k) = write_is h xs before write ∙ rw (early_refusal (length before) h xs e) refl in
      let r : read ≡ reader.Refused (suc k) = read_is (written_text h xs) numbers call ∙ f in
      (λ q. r ∙ ap reader.Refused (same_number (suc k) n (sym w ∙ q)), λ q. w ∙ ap Refused (same_read (suc k) n (sym r ∙ q)))
    where
      same_number : (a b : ℕ) → Refused a ≡ Refused b → a ≡ b
      same_number a b e = cc

      same_read : (a b : ℕ) → reader.Refused a ≡ reader.Refused b → a ≡ b
      same_read a b e = cc

  neither : SheetNumbers (header_fields h) xs → (n : ℕ) → n < 13 → (wrote ≡ Refused n) ↔ (read ≡ reader.Refused n)
  unfolding written_text
  neither sheet n small =
      let given = (sheet_exactly (length numbers) (written_text h xs) (header_fields h) xs).1 (refl, sheet, sym room) in
      let r : read ≡ Sheet (sheet_sizes_of (header_fields h)) = read_is (written_text h xs) numbers call ∙ given.answer in (
        λ q.
            let (same, some) = is-refused (writing_refusal h xs before) (length (written_text h xs)) n (sym (write_is h xs before write) ∙ q) in
            absurd (omega (arith, room_alone (length before) h xs sheet same some, small)),
        λ q. let never : ◌≡◌ {A = ℕ} 0 1 = apart _ n (sym r ∙ q) in absurd (omega (arith, never)),
      )
    where
      apart : (s : SheetSizes) (n : ℕ) → Sheet s ≡ reader.Refused n → ◌≡◌ {A = ℕ} 0 1
      apart s n e = cc

  fields-count : length xs ≡ fields (body_lines (sizes_of (header_fields h)))
  fields-count = count ∙ sym (ap (λ (s : Sizes). fields (body_lines s)) (sizes-given h) ∙ body-total h.sizes)

  by_numbers : first_failing (header_tests (header_fields h)) ≡ 0 → (k : ℕ) → first_failing (number_tests h.sizes xs) ≡ k → (n : ℕ) → n < 13
      → (wrote ≡ Refused n) ↔ (read ≡ reader.Refused n)
  unfolding written_text sheet_text header_tests first_failing
  by_numbers e zero f n small =
      neither (record { header = length_fields h; fit = fit; sizes = e; count = fields-count; numbers = rw (sizes-given h) f }) n small
  by_numbers e (suc k) f n small =
      let H = header_fields h in
      both k
      (refusal_rest (header_tests H) (slice_tests (length xs) h.sizes xs) (refusal_passes (header_tests H) refl e)
      ∙ rw (eq-eqb (length xs) (total h.sizes) count) f)
      (refused-numbers (length numbers) (written_text h xs) H (text_of (body_lines (sizes_of H)) xs) (length_fields h) fit refl e xs fields-count
      others-fit refl (sym room) k (rw (sizes-given h) f)) n

  by_header : (k : ℕ) → first_failing (header_tests (header_fields h)) ≡ k → (n : ℕ) → n < 13 → (wrote ≡ Refused n) ↔ (read ≡ reader.Refused n)
  unfolding written_text sheet_text
  by_header zero e n small = by_numbers e (first_failing (number_tests h.sizes xs)) refl n small
  by_header (suc k) e n small =
      let H = header_fields h in
      both k (sym (refusal_first (header_tests H) (slice_tests (length xs) h.sizes xs) (omega (arith, e))) ∙ e)
      (refused-header (length numbers) (written_text h xs) H (text_of (body_lines (sizes_of H)) xs) (length_fields h) fit refl k e) n

  pub same_refusal : (n : ℕ) → n < 13 → (wrote ≡ Refused n) ↔ (read ≡ reader.Refused n)
  same_refusal = by_header (first_failing (header_tests (header_fields h))) refl
