-- The writer: SPECIFICATION 10. All from its promise `SheetWritten`, and what joins it to the reader also from the reader's, `SheetRead`.
--     written-exactly, short_buffer, writing_rising    what it answers
--     text-put, nothing_put            what stands in the buffer afterwards
--     read-text, read-written          "a text the reader takes is the text the writer makes of its numbers"
--     written_read                     "What the writer puts down, the reader gives back"
--     written_count                    how many numbers the reader gives back, by the text alone
--     text_bytes_lem, refused_bytes        the length by the sizes alone
--     most_bytes                       "at most 1384691915 within the limits of the sizes"
--     least_buffer                     "A buffer of that length is the least that the writer takes."
use Rattle.std.specs.Prelude.{◌≡◌, true, ◌↔◌, List, take, drop, ℤ}
use Rattle.std.proofs.Math.Path.{refl, sym, ap}
use Rattle.std.proofs.Common.{subst, ◌∙◌, ne_eqb}
use Prim.Native.Nat.{ℕ, zero, suc, ◌+◌, ◌≤◌, ◌<◌}
use native.Mathlib.Omega.{arith}
use Rattle.std.proofs.Math.ListN.{length}
use Rattle.integers.specs.Over.{over}
use Rattle.integers.specs.Laws.OverLaws.{length_over, drop-over, part-over}
use Rattle.fold.specs.Answers.{first_failing, written}
use Rattle.fold.specs.Laws.TestLaws.{rising}
use Rattle.fold.specs.Laws.RefusalLaws.{refusal_passes}
use Rattle.sheet.specs.declared.header.SheetSizes.{SheetSizes}
use Rattle.sheet.specs.SheetAnswer.{SheetAnswer}
use Rattle.sheet.specs.SheetAnswer.{Sheet}
use Rattle.sheet.specs.Reading.{header_numbers, header_tests, sizes_of, body_numbers, number_tests, number_count, SheetRead}
use Rattle.sheet.specs.Layout.{SheetNumbers}
use Rattle.sheet.specs.Laws.AnswerLaws.{read_is}
use Rattle.sheet.specs.Laws.HeaderLaws.{header-bounded}
use Rattle.sheet.specs.Theorems.SheetTheorems.{Read, sheet_exactly, sheet_count}
use Rattle.writer.specs.WriteAnswer.{WriteAnswer}
use Rattle.writer.specs.WriteAnswer.{Length, Refused}
use Rattle.writer.specs.Writing.{header_fields, written_text, sheet_bytes, writing_tests, writing_refusal, length_answer, SheetWritten}
use Rattle.writer.proofs.Laws.LengthLaws.{sizes-back, sizes-given, text-length, bytes_most}
use Rattle.writer.proofs.Laws.AnswerLaws.{is-length, is-refused, write_is, fields_back, count-total}
use Rattle.writer.proofs.Laws.AnswerLaws.{writing_passed, passed_writing, writing_short, short_writing}
use Rattle.writer.proofs.Laws.ReadLaws.{read-header, read-numbers}

-- ---- the answer

module _ {h : SheetSizes} {xs : List ℤ} {before after : List ℕ} {wrote : WriteAnswer} (call : SheetWritten h xs before wrote after) where
  is : wrote ≡ length_answer (writing_refusal h xs before) (length (written_text h xs))
  is = write_is h xs before call

  -- "A writer turns the numbers of a sheet into its one text, into a lent buffer, and answers the text's length."
  pub written-exactly : (m : ℕ) → (wrote ≡ Length m) ↔ (SheetNumbers (header_fields h) xs × (m ≡ length (written_text h xs)) × (m ≤ length before))
  written-exactly m = (
    λ e.
        let (none, same) = is-length (writing_refusal h xs before) (length (written_text h xs)) m (sym is ∙ e) in
        let (numbers, fits) = writing_passed (length before) h xs none in
        (numbers, same, omega (arith, same, fits)),
    λ e. is ∙ rw (passed_writing (length before) h xs e.0 (omega (arith, e.1, e.2))) (ap Length (sym e.1)),
  )

  -- "13, after 11, exactly when the buffer is shorter than the text": the other tests pass exactly for the numbers of a sheet
  pub short_buffer : (wrote ≡ Refused 13) ↔ (SheetNumbers (header_fields h) xs × (length before < length (written_text h xs)))
  short_buffer = (
    λ e. writing_short (length before) h xs (is-refused (writing_refusal h xs before) (length (written_text h xs)) 13 (sym is ∙ e)).0,
    λ e. is ∙ rw (short_writing (length before) h xs e.0 e.1) refl,
  )

-- "13, after 11": the numbers of the tests rise, so that the lowest of those that fail is named: `lowest-first` of crates/fold
pub writing_rising : (room : ℕ) (h : SheetSizes) (xs : List ℤ) → rising 0 (writing_tests room h xs) ≡ true
unfolding writing_tests header_tests number_tests
writing_rising room h xs = refl

-- ---- the buffer

module _ {h : SheetSizes} {xs : List ℤ} {before after : List ℕ} where
  -- "Bytes past the text are untouched."
  pub text-put : {m : ℕ} → SheetWritten h xs before (Length m) after
      → (take m after ≡ written_text h xs) × (drop m after ≡ drop m before) × (length after ≡ length before)
  unfolding written
  text-put {m} call =
      let text = written_text h xs in
      let (numbers, same, fits) = (written-exactly call m).0 refl in
      let none = passed_writing (length before) h xs numbers (omega (arith, same, fits)) in
      let put : after ≡ over before 0 text = call.bytes_are ∙ ap (λ (n : ℕ). written n (over before 0 text) before) none in
      let end : 0 + length text ≡ m = omega (arith, same) in
      rw put (
        part-over before 0 text m (omega arith) (sym same),
        rw end at (drop-over before 0 text (omega arith)),
        length_over before 0 text (omega (arith, same, fits)),
      )

  -- a refusal leaves all of it
  pub nothing_put : {n : ℕ} → SheetWritten h xs before (Refused n) after → after ≡ before
  unfolding written
  nothing_put {n} call =
      let (same, some) = is-refused (writing_refusal h xs before) (length (written_text h xs)) n (sym (is call)) in
      call.bytes_are ∙ step (writing_refusal h xs before) (omega (arith, same, some))
    where
      step : (k : ℕ) → 0 < k → written k (over before 0 (written_text h xs)) before ≡ before
      step zero some = let never : ⊥ = omega arith in absurd never
      step (suc k) some = refl

-- ---- the writer and the reader

module _ {text : List ℕ} {numbers : List ℤ} {h : SheetSizes} {xs : List ℤ} (call : SheetRead text numbers (Sheet h) xs) where
  -- "a text the reader takes is the text the writer makes of its numbers"
  pub read-text : (text ≡ written_text h xs) × SheetNumbers (header_fields h) xs
  unfolding written_text
  read-text =
      let H = header_numbers text in
      let read : Read (length numbers) text H xs = record {
        answer = sym (read_is text numbers call) ∙ ap Sheet (read-header call);
        header = refl;
        numbers = sym (read-numbers call);
      } in
      let (is, sheet, fits) = (sheet_exactly (length numbers) text H xs).0 read in
      let back : header_fields h ≡ H = ap header_fields (read-header call) ∙ fields_back H sheet.header sheet.sizes in
      rw back (is, sheet)

  -- so the writer makes it again, where there is room
  pub read-written : {before after : List ℕ} {wrote : WriteAnswer} → SheetWritten h xs before wrote after
      → (length text ≤ length before → (wrote ≡ Length (length text)) × (take (length text) after ≡ text))
      × (length before < length text → wrote ≡ Refused 13)
  read-written {before} {after} {wrote} write =
      let (is, sheet) = read-text in (
        λ room.
            let e : wrote ≡ Length (length text) = (written-exactly write (length text)).1 (sheet, ap length is, room) in
            (e, (text-put (subst (λ (wrote : WriteAnswer). SheetWritten h xs before wrote after) e write)).0 ∙ sym is),
        λ short. (short_buffer write).1 (sheet, omega (arith, short, ap length is)),
      )

-- "What the writer puts down, the reader gives back (65536 bytes is the program's limit, not the reader's)"
pub written_read : {h : SheetSizes} {xs : List ℤ} {before after : List ℕ} {m : ℕ} {numbers numbers' : List ℤ} {read : SheetAnswer}
    → SheetWritten h xs before (Length m) after → SheetRead (take m after) numbers read numbers' → length numbers ≡ length xs
    → (read ≡ Sheet h) × (numbers' ≡ xs)
unfolding written_text
written_read {h} {xs} {before} {after} {m} {numbers} {numbers'} {read} write call room =
    let text = take m after in
    let numbers-is = ((written-exactly write m).0 refl).0 in
    let given = (sheet_exactly (length numbers) text (header_fields h) xs).1 ((text-put write).0, numbers-is, sym room) in
    let is : read ≡ Sheet h = read_is text numbers call ∙ given.answer ∙ ap Sheet (sizes-back h) in
    let sheet = subst (λ (read : SheetAnswer). SheetRead text numbers read numbers') is call in
    (is, read-numbers sheet ∙ ap (λ (l : List ℤ). body_numbers (sizes_of l) text) given.header ∙ given.numbers)

-- so a caller who has the text alone knows how long a slice the reader asks for
pub written_count : {h : SheetSizes} {xs : List ℤ} {before after : List ℕ} {m : ℕ} → SheetWritten h xs before (Length m) after
    → number_count (take m after) ≡ length xs
unfolding written_text
written_count {h} {xs} {before} {after} {m} write =
    ap number_count (text-put write).0 ∙ sheet_count (header_fields h) xs ((written-exactly write m).0 refl).0

-- ---- the length by the sizes alone

-- the text of a sheet has as many bytes as its sizes give
pub text_bytes_lem : (h : SheetSizes) (xs : List ℤ) → SheetNumbers (header_fields h) xs → length (written_text h xs) ≡ sheet_bytes h
unfolding sheet_bytes
text_bytes_lem h xs n = text-length h xs (count-total h xs n) ∙ rw n.sizes refl

-- sizes that are refused give none
pub refused_bytes : (h : SheetSizes) (n : ℕ) → first_failing (header_tests (header_fields h)) ≡ suc n → sheet_bytes h ≡ 0
unfolding sheet_bytes
refused_bytes h n e = rw (e, ne_eqb (suc n) 0 (λ q. omega arith)) refl

-- "at most 1384691915 within the limits of the sizes"
pub most_bytes : (h : SheetSizes) → sheet_bytes h ≤ 1384691915
unfolding sheet_bytes header_tests
most_bytes h = step (first_failing (header_tests (header_fields h))) refl
  where
    step : (n : ℕ) → first_failing (header_tests (header_fields h)) ≡ n → sheet_bytes h ≤ 1384691915
    step zero e =
        let sized = header-bounded (header_fields h) (refusal_passes (header_tests (header_fields h)) refl e) in
        rw e (bytes_most h.sizes (rw (sizes-given h) at sized))
    step (suc n) e = omega (arith, refused_bytes h n e)

-- "A buffer of that length is the least that the writer takes."
pub least_buffer : {h : SheetSizes} {xs : List ℤ} {before after : List ℕ} {wrote : WriteAnswer} → SheetWritten h xs before wrote after
    → SheetNumbers (header_fields h) xs
    → ((wrote ≡ Length (sheet_bytes h)) ↔ (sheet_bytes h ≤ length before)) × ((wrote ≡ Refused 13) ↔ (length before < sheet_bytes h))
least_buffer {h} {xs} {before} call n =
    let same = text_bytes_lem h xs n in (
      (λ e. ((written-exactly call (sheet_bytes h)).0 e).2, λ fits. (written-exactly call (sheet_bytes h)).1 (n, sym same, fits)),
      (λ e. omega (arith, same, ((short_buffer call).0 e).1), λ short. (short_buffer call).1 (n, omega (arith, same, short))),
    )
