-- The reader is sound and complete: SPECIFICATION 10.
--     sheet_exactly      the answer is a sheet's sizes and numbers exactly if the text is theirs and they are the numbers of a sheet
--     header-line        "The header's layout is read first (12)": it passes exactly if the text starts with a line of 18 numbers
--     other-lines        "then the other lines (12)": they pass exactly if the rest of the text is that of as many numbers as the sizes give
--     broken_header .. refused-numbers    what the answer is in each other case; one of the cases holds of every text
--     sheet_count        a sheet has as many numbers as its header gives; none where the header is refused
-- A field: `field_given_back`, `field_is-text` and `read_fits` of FieldLaws.
use Rattle.std.specs.Prelude.{◌≡◌, refl, Bool, true, false, ◌↔◌, ℕ, zero, suc, ◌≤◌, ◌<◌, length, drop, ℤ}
use Rattle.std.proofs.Math.Path.{sym}
use Rattle.std.proofs.Common.{ap, ◌∙◌, arith}
use mathlib.Core.List.{List, ◌++◌}
use borrow.Author.Tests.{eq-eqb, ne_eqb}
use Rattle.fold.specs.Answers.{first_failing}
use Rattle.fold.specs.Laws.RefusalLaws.{refusal_passes, passes_refusal}
use Rattle.fold.specs.declared.Sizes.{Sizes}
use Rattle.sheet.specs.declared.header.SheetSizes.{SheetSizes}
use Rattle.sheet.specs.SheetAnswer.{Sheet, Refused}
use Rattle.fields.specs.Sections.{total}
use Rattle.sheet.specs.Reading.{header_laid, header_numbers, header_tests, sizes_of, sheet_sizes_of, body_laid, body_numbers, number_tests, body_tests}
use Rattle.sheet.specs.Reading.{front_tests, number_count, reading_tests, sheet_if, reading}
use Rattle.sheet.specs.Laws.AnswerLaws.{front-passes, refusal_first, refusal_rest}
use Rattle.sheet.specs.Laws.HeaderLaws.{header-bounded}
use Rattle.sheet.specs.Laws.AnswerLaws.{Passed, reading-passed, passed-reading, count-refused, count_good}
use Rattle.sheet.specs.Layout.{fields, body_lines, line_text, text_of, sheet_text, AllFit, SheetNumbers}
use Rattle.sheet.specs.Laws.BodyLaws.{body-total}
use Rattle.sheet.specs.Laws.SheetLaws.{length-header, header-text, header-fit, HeaderRead, header_read, length-body, body-text, body-fit, body-read}
use Rattle.sheet.specs.Laws.SheetLaws.{coefficients-fit}
use Rattle.fields.specs.Field.{header_bytes}

-- ---- the lines

-- the text starts with a line of 18 numbers
pub record HeaderLine (text : List ℕ) : Type 0 where
  pub h : List ℤ
  pub rest : List ℕ
  pub count : length h ≡ 18
  pub fit : AllFit h
  pub is : text ≡ line_text h ++ rest

pub header-line : (text : List ℕ) → (header_laid text ≡ true) ↔ HeaderLine text
header-line text = (
  λ e. record { h = header_numbers text; rest = drop header_bytes text; count = length-header text; fit = header-fit text e; is = header-text text e },
  λ l. (header_read text l.h l.rest l.count l.fit l.is).is-laid,
)

-- what follows the header is the text of as many numbers as the sizes give
pub record OtherLines (s : Sizes) (rest : List ℕ) : Type 0 where
  pub xs : List ℤ
  pub count : length xs ≡ fields (body_lines s)
  pub fit : AllFit xs
  pub is : rest ≡ text_of (body_lines s) xs

pub other-lines : (s : Sizes) (text : List ℕ) → 0 < s.shape.d → header_bytes ≤ length text → (body_laid s text ≡ true) ↔ OtherLines s (drop header_bytes text)
other-lines s text p inside = (
  λ e. record { xs = body_numbers s text; count = length-body s p text; fit = body-fit s p text e; is = body-text s p text e },
  λ l. (body-read s p text l.xs inside l.count l.fit l.is).0,
)

-- ---- a sheet

-- the answer is a sheet with these numbers
pub record Read (room : ℕ) (text : List ℕ) (h xs : List ℤ) : Type 0 where
  pub answer : reading room text ≡ Sheet (sheet_sizes_of h)
  pub header : header_numbers text ≡ h
  pub numbers : body_numbers (sizes_of h) text ≡ xs

positive : (h : List ℤ) → first_failing (header_tests h) ≡ 0 → 0 < (sizes_of h).shape.d
unfolding header_tests
positive h e = (header-bounded h (refusal_passes (header_tests h) refl e)).shaped.degree.positive

no_refusal : (n : ℕ) (s t : SheetSizes) → sheet_if n s ≡ Sheet t → n ≡ 0
no_refusal zero s t e = refl
no_refusal (suc n) s t e = let f : ◌≡◌ {A = ℕ} 0 1 = cc in absurd (omega arith)

sound : (room : ℕ) (text : List ℕ) → Passed room text
    → (text ≡ sheet_text (header_numbers text) (body_numbers (sizes_of (header_numbers text)) text))
    × SheetNumbers (header_numbers text) (body_numbers (sizes_of (header_numbers text)) text)
    × (length (body_numbers (sizes_of (header_numbers text)) text) ≡ room)
unfolding sheet_text header_tests number_tests
sound room text p =
    let h = header_numbers text in
    let s = sizes_of h in
    let d = (header-bounded h p.sizes).shaped.degree.positive in (
      header-text text p.header ∙ ap (λ (l : List ℕ). line_text h ++ l) (body-text s d text p.lines),
      record {
        header = length-header text;
        fit = header-fit text p.header;
        sizes = passes_refusal (header_tests h) p.sizes;
        count = length-body s d text;
        numbers = passes_refusal (number_tests s (body_numbers s text)) p.numbers;
      },
      omega (arith, p.fits, length-body s d text, body-total s),
    )

complete : (room : ℕ) (text : List ℕ) (h xs : List ℤ) → text ≡ sheet_text h xs → SheetNumbers h xs → length xs ≡ room → Read room text h xs
unfolding sheet_text header_tests number_tests reading
complete room text h xs t n fits =
    let s = sizes_of h in
    let d = positive h n.sizes in
    let head = header_read text h (text_of (body_lines s) xs) n.header n.fit t in
    let numbers = refusal_passes (number_tests s xs) refl n.numbers in
    let body = body-read s d text xs head.inside n.count (coefficients-fit xs numbers.0) head.after in
    let passed : Passed room text = record {
      header = head.is-laid;
      sizes = rw head.numbers (refusal_passes (header_tests h) refl n.sizes);
      lines = rw head.numbers body.0;
      fits = rw head.numbers (omega (arith, fits, n.count, body-total s));
      numbers = rw (head.numbers, body.1) numbers;
    } in
    record { answer = rw (passed-reading room text passed, head.numbers) refl; header = head.numbers; numbers = body.1 }

carried : (room : ℕ) (text : List ℕ) (h xs : List ℤ) → header_numbers text ≡ h → body_numbers (sizes_of h) text ≡ xs
    → ((text ≡ sheet_text (header_numbers text) (body_numbers (sizes_of (header_numbers text)) text))
    × SheetNumbers (header_numbers text) (body_numbers (sizes_of (header_numbers text)) text)
    × (length (body_numbers (sizes_of (header_numbers text)) text) ≡ room))
    → (text ≡ sheet_text h xs) × SheetNumbers h xs × (length xs ≡ room)
carried room text h xs e f g = rw (← f, ← e) g

pub sheet_exactly : (room : ℕ) (text : List ℕ) (h xs : List ℤ)
    → Read room text h xs ↔ ((text ≡ sheet_text h xs) × SheetNumbers h xs × (length xs ≡ room))
unfolding reading
sheet_exactly room text h xs = (
  λ r. let none = no_refusal (first_failing (reading_tests room text)) _ _ r.answer in
      carried room text h xs r.header r.numbers (sound room text (reading-passed room text none)),
  λ e. complete room text h xs e.0 e.1 e.2,
)

-- ---- the other answers

refused_by : (room : ℕ) (text : List ℕ) (n : ℕ) → first_failing (reading_tests room text) ≡ suc n → reading room text ≡ Refused (suc n)
unfolding reading
refused_by room text n e = rw e refl

by_header : (room : ℕ) (text : List ℕ) (n : ℕ) → first_failing (front_tests text) ≡ suc n → reading room text ≡ Refused (suc n)
unfolding reading_tests
by_header room text n e =
    refused_by room text n (sym (refusal_first (front_tests text) (body_tests room (sizes_of (header_numbers text)) text) (omega (arith, e))) ∙ e)

by_body : (room : ℕ) (text : List ℕ) (n : ℕ) → first_failing (front_tests text) ≡ 0
    → first_failing (body_tests room (sizes_of (header_numbers text)) text) ≡ suc n → reading room text ≡ Refused (suc n)
unfolding reading_tests
by_body room text n e f =
    refused_by room text n (refusal_rest (front_tests text) (body_tests room (sizes_of (header_numbers text)) text) (front-passes text e) ∙ f)

not_true : (t : Bool) → (t ≡ true → ⊥) → t ≡ false
not_true true never = absurd (never refl)
not_true false never = refl

-- 12: the text does not start with a line of 18 numbers
pub broken_header : (room : ℕ) (text : List ℕ) → (HeaderLine text → ⊥) → reading room text ≡ Refused 12
unfolding first_failing
broken_header room text never =
    by_header room text 11 (rw (not_true (header_laid text) (λ e. never ((header-line text).0 e))) refl)

module _ (room : ℕ) (text : List ℕ) (h : List ℤ) (rest : List ℕ) (size : length h ≡ 18) (fit : AllFit h)
    (is : text ≡ line_text h ++ rest) where
  head : HeaderRead text h rest
  head = header_read text h rest size fit is

  front : first_failing (front_tests text) ≡ first_failing (header_tests h)
  unfolding first_failing
  front = rw head.is-laid (ap (λ (l : List ℤ). first_failing (header_tests l)) head.numbers)

  -- 1 to 6: the header's numbers are refused, whatever follows
  pub refused-header : (n : ℕ) → first_failing (header_tests h) ≡ suc n → reading room text ≡ Refused (suc n)
  refused-header n e = by_header room text n (front ∙ e)

  module _ (good : first_failing (header_tests h) ≡ 0) where
    body : (n : ℕ) → first_failing (body_tests room (sizes_of h) text) ≡ suc n → reading room text ≡ Refused (suc n)
    body n e = by_body room text n (front ∙ good) (ap (λ (l : List ℤ). first_failing (body_tests room (sizes_of l) text)) head.numbers ∙ e)

    -- 12: the rest is not the text of as many numbers as the sizes give
    pub broken_lines : (OtherLines (sizes_of h) rest → ⊥) → reading room text ≡ Refused 12
    unfolding first_failing body_tests
    broken_lines never =
        body 11 (rw
        (not_true (body_laid (sizes_of h) text)
        (λ e. never (rw head.after at ((other-lines (sizes_of h) text (positive h good) head.inside).0 e)))) refl)

    module _ (xs : List ℤ) (count : length xs ≡ fields (body_lines (sizes_of h))) (xs-fit : AllFit xs)
        (rest-is : rest ≡ text_of (body_lines (sizes_of h)) xs) where
      lines : (body_laid (sizes_of h) text ≡ true) × (body_numbers (sizes_of h) text ≡ xs)
      lines = body-read (sizes_of h) (positive h good) text xs head.inside count xs-fit (head.after ∙ rest-is)

      length-total : length xs ≡ total (sizes_of h)
      length-total = count ∙ body-total (sizes_of h)

      -- 7: the slice has another length than the numbers
      pub other_length : (length xs ≡ room → ⊥) → reading room text ≡ Refused 7
      unfolding first_failing body_tests
      other_length never = body 6 (rw (lines.0, ne_eqb room (total (sizes_of h)) (λ e. never (length-total ∙ sym e))) refl)

      -- 8 to 10, "lowest number first": a number is refused
      pub refused-numbers : length xs ≡ room → (n : ℕ) → first_failing (number_tests (sizes_of h) xs) ≡ suc n
          → reading room text ≡ Refused (suc n)
      unfolding first_failing body_tests
      refused-numbers fits n e =
          body n (rw (lines.0, eq-eqb room (total (sizes_of h)) (sym fits ∙ length-total)) (rw lines.1 e))

-- ---- how many numbers

-- a header that is refused, whatever follows, gives no numbers
pub refused-count : (text : List ℕ) (n : ℕ) → first_failing (front_tests text) ≡ suc n → number_count text ≡ 0
refused-count text n e = sym (count-refused text (sym e) (omega arith))

-- a sheet has the numbers that its header gives
pub sheet_count : (h xs : List ℤ) → SheetNumbers h xs → number_count (sheet_text h xs) ≡ length xs
unfolding sheet_text
sheet_count h xs n =
    let text = sheet_text h xs in
    let head = header_read text h (text_of (body_lines (sizes_of h)) xs) n.header n.fit refl in
    let none = front 0 text h (text_of (body_lines (sizes_of h)) xs) n.header n.fit refl ∙ n.sizes in
    sym (count_good text (sym none) (omega arith) (ap sheet_sizes_of (sym head.numbers)) (n.count ∙ body-total (sizes_of h)))
