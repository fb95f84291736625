-- The answer to a text: SPECIFICATION 10.
--     numbers-answer    the verifier's refusal of a sheet's numbers is the reader's, then that of row 15
--     text-answer       the reader's refusal, then that of row 15, or the verdict on the numbers
--     sheet_answer      the text of a sheet: refused by 15 (`sheet_wide`), or the verdict on its numbers (`sheet_judged`)
--     judged_sheet      and a text that is judged is the text of a sheet with narrow low digits
--     refused-text      a text of at most 65536 bytes that the reader refuses is refused by its number; `refused-longer` for a longer one
--     kind_printed      the kind is 0, 1 or 2: never "written"
--     never-seven       no text is refused by row 7: the slice for the numbers has the length that the sizes give
use Rattle.std.specs.Prelude.{◌≡◌, refl, Bool, true, false, cond, List, [], ◌∷◌, ◌++◌, ℕ, zero, suc, ◌≤◌, ◌<◌, leb, eqb, length, ℤ}
use Rattle.std.proofs.Common.{sym, ap, ◌∙◌, subst, arith, le-leb, leb-true, leb-false, eq-eqb}
use Rattle.std.proofs.lemmas.Bool.{lt-leb}
use Rattle.fold.specs.Answers.{Verdict}
use Rattle.fold.specs.Answers.{Accepted, Failed}
use Rattle.fold.specs.Answers.{Answer}
use Rattle.fold.specs.Answers.{Refused, Judged, Written}
use Rattle.fold.specs.Verdict.{verdict}
use Rattle.fold.specs.Answers.{kind_of, number_of, first_failing, answered}
use Rattle.fold.specs.Laws.RefusalLaws.{numbered, refusal_passes, passes_refusal, passes-front, passes-back}
use Rattle.fold.specs.Laws.TestLaws.{passed, failed, none-fails, stops, after-passes}
use Rattle.fold.specs.declared.Sizes.{Sizes}
use Rattle.sheet.specs.declared.header.SheetSizes.{SheetSizes}
use Rattle.sheet.specs.SheetAnswer as reader
use Rattle.fields.specs.Sections.{total}
use Rattle.sheet.specs.Reading.{header_numbers, header_tests, sizes_of, sheet_sizes_of, body_numbers, number_tests, body_tests}
use Rattle.sheet.specs.Reading.{reading_tests, sheet_if, reading}
use Rattle.fields.specs.Laws.PlaceLaws.{contradiction}
use Rattle.sheet.specs.Laws.AnswerLaws.{reading-passed}
use Rattle.sheet.specs.Laws.HeaderLaws.{header-bounded}
use Rattle.sheet.specs.Laws.BodyLaws.{body-total}
use Rattle.sheet.specs.Laws.SheetLaws.{length-body}
use Rattle.sheet.specs.Layout.{fields, body_lines, sheet_text, SheetNumbers}
use Rattle.sheet.specs.Theorems.SheetTheorems.{sheet_exactly}
use Rattle.judge.specs.Judging.{sheet_statement, sheet_draws, sheet_transcript, sheet_opening, sheet_narrow, wide_test, judged_numbers, judged_by, judged, judged_text}
use Rattle.judge.specs.Laws.PassLaws.{same_refusal, after-reading}

-- the verdict on the numbers of a sheet
abbrev pub sheet_verdict : Sizes → List ℤ → Verdict
sheet_verdict s xs = verdict (sheet_statement s xs) (sheet_draws s xs) (sheet_transcript s xs) (sheet_opening s xs)

-- how many numbers the header's sizes give
abbrev pub room_of : List ℕ → ℕ
room_of text = total (sizes_of (header_numbers text))

-- the numbers read from a text
abbrev pub numbers_of : List ℕ → List ℤ
numbers_of text = body_numbers (sizes_of (header_numbers text)) text

-- the verdict on them
abbrev pub text_verdict : List ℕ → Verdict
text_verdict text = sheet_verdict (sizes_of (header_numbers text)) (numbers_of text)

-- the tests of a text of at most 65536 bytes: the reader's, then row 15
abbrev pub text_tests : List ℕ → List (ℕ × Bool)
text_tests text = reading_tests (room_of text) text ++ wide_test (sizes_of (header_numbers text)) (numbers_of text)

short : (text : List ℕ) → length text ≤ 65536 → judged_text text ≡ judged text
unfolding judged_text
short text h = rw (le-leb (length text) 65536 h) refl

-- ---- the numbers of a sheet

-- the verifier's answer to as many numbers as a header gives that is not refused
pub numbers-answer : (h xs : List ℤ) → first_failing (header_tests h) ≡ 0 → length xs ≡ fields (body_lines (sizes_of h))
    → judged_numbers (sizes_of h) xs
    ≡ answered (first_failing (number_tests (sizes_of h) xs ++ wide_test (sizes_of h) xs)) (Judged (sheet_verdict (sizes_of h) xs))
unfolding judged_numbers header_tests
numbers-answer h xs header count =
    ap (λ (n : ℕ). answered n (Judged (sheet_verdict (sizes_of h) xs)))
    (same_refusal h xs (refusal_passes (header_tests h) refl header) (count ∙ body-total (sizes_of h)))

-- ---- every text

-- no test has the number 0
numbered-reading : (text : List ℕ) → numbered (reading_tests (room_of text) text) ≡ true
unfolding reading_tests header_tests body_tests number_tests
numbered-reading text = refl

numbered-text : (text : List ℕ) → numbered (text_tests text) ≡ true
unfolding reading_tests header_tests body_tests number_tests
numbered-text text = refl

-- what the reader took, the verifier refuses by row 15 or judges
taken : (text : List ℕ) → first_failing (reading_tests (room_of text) text) ≡ 0
    → judged_numbers (sizes_of (header_numbers text)) (numbers_of text)
    ≡ answered (first_failing (wide_test (sizes_of (header_numbers text)) (numbers_of text))) (Judged (text_verdict text))
unfolding judged_numbers
taken text e =
    let h = header_numbers text in
    let s = sizes_of h in
    let passed = reading-passed (room_of text) text e in
    let positive = (header-bounded h passed.sizes).shaped.degree.positive in
    ap (λ (n : ℕ). answered n (Judged (text_verdict text)))
    (after-reading h (numbers_of text) passed.sizes (length-body s positive text ∙ body-total s) passed.numbers)

by_refusal : (text : List ℕ) (n : ℕ) → first_failing (reading_tests (room_of text) text) ≡ n
    → judged_by (sheet_if n (sheet_sizes_of (header_numbers text))) (numbers_of text) ≡ answered (first_failing (text_tests text)) (Judged (text_verdict text))
unfolding answered
by_refusal text zero e =
    let passes = refusal_passes (reading_tests (room_of text) text) (numbered-reading text) e in
    taken text e ∙ ap (λ (n : ℕ). answered n (Judged (text_verdict text))) (sym (after-passes (reading_tests (room_of text) text) _ passes))
by_refusal text (suc n) e =
    ap (λ (n : ℕ). answered n (Judged (text_verdict text))) (stops (reading_tests (room_of text) text) _ (sym e) (λ none. omega (arith, none)))

pub text-answer : (text : List ℕ) → length text ≤ 65536 → judged_text text ≡ answered (first_failing (text_tests text)) (Judged (text_verdict text))
unfolding judged reading
text-answer text h = short text h ∙ by_refusal text (first_failing (reading_tests (room_of text) text)) refl

-- a text that none of its tests refuses
pub read_and_narrow : (text : List ℕ) → first_failing (text_tests text) ≡ 0
    → (first_failing (reading_tests (room_of text) text) ≡ 0) × (sheet_narrow (sizes_of (header_numbers text)) (numbers_of text) ≡ true)
read_and_narrow text e =
    let passes = refusal_passes (text_tests text) (numbered-text text) e in
    let early = passes-front (reading_tests (room_of text) text) (wide_test (sizes_of (header_numbers text)) (numbers_of text)) passes in
    let later = passes-back (reading_tests (room_of text) text) (wide_test (sizes_of (header_numbers text)) (numbers_of text)) passes in
    (passes_refusal (reading_tests (room_of text) text) early, later.0)

pub numbers-judged : (text : List ℕ) → first_failing (text_tests text) ≡ 0
    → judged_numbers (sizes_of (header_numbers text)) (numbers_of text) ≡ Judged (text_verdict text)
unfolding answered
numbers-judged text e =
    let (read, thin) = read_and_narrow text e in
    taken text read ∙ rw (passed (15, sheet_narrow (sizes_of (header_numbers text)) (numbers_of text)) [] thin, sym none-fails) refl

-- "longer: 12, before all else"
pub refused-longer : (text : List ℕ) → 65536 < length text → judged_text text ≡ Refused 12
unfolding judged_text
refused-longer text h = rw (lt-leb (length text) 65536 h) refl

pub refused-text : (text : List ℕ) → length text ≤ 65536 → (n : ℕ) → reading (room_of text) text ≡ reader.Refused n
    → judged_text text ≡ Refused n
unfolding judged
refused-text text h n e = short text h ∙ rw e refl

-- ---- a sheet

none_if : (k : ℕ) (s t : SheetSizes) → sheet_if k s ≡ reader.Sheet t → k ≡ 0
none_if zero s t e = refl
none_if (suc k) s t e = let f : ◌≡◌ {A = ℕ} 0 1 = cc in absurd (omega arith)

no_refusal : (room : ℕ) (text : List ℕ) (s : SheetSizes) → reading room text ≡ reader.Sheet s
    → first_failing (reading_tests room text) ≡ 0
unfolding reading
no_refusal room text s e = none_if (first_failing (reading_tests room text)) (sheet_sizes_of (header_numbers text)) s e

pub sheet_answer : (h xs : List ℤ) → SheetNumbers h xs → length (sheet_text h xs) ≤ 65536
    → judged_text (sheet_text h xs) ≡ answered (first_failing (wide_test (sizes_of h) xs)) (Judged (sheet_verdict (sizes_of h) xs))
sheet_answer h xs n fits =
    let text = sheet_text h xs in
    let first = (sheet_exactly (length xs) text h xs).1 (refl, n, refl) in
    let room : room_of text ≡ length xs =
    ap (λ (l : List ℤ). total (sizes_of l)) first.header ∙ sym (body-total (sizes_of h)) ∙ sym n.count in
    let none : first_failing (reading_tests (room_of text) text) ≡ 0 = rw room (no_refusal (length xs) text (sheet_sizes_of h) first.answer) in
    let passes = refusal_passes (reading_tests (room_of text) text) (numbered-reading text) none in
    text-answer text fits ∙ rw (after-passes (reading_tests (room_of text) text) _ passes, first.header, first.numbers) refl

-- with narrow low digits, and with a wide one
pub sheet_judged : (h xs : List ℤ) → SheetNumbers h xs → length (sheet_text h xs) ≤ 65536 → sheet_narrow (sizes_of h) xs ≡ true
    → judged_text (sheet_text h xs) ≡ Judged (sheet_verdict (sizes_of h) xs)
unfolding answered
sheet_judged h xs n fits thin = sheet_answer h xs n fits ∙ rw (passed (15, sheet_narrow (sizes_of h) xs) [] thin, sym none-fails) refl

pub sheet_wide : (h xs : List ℤ) → SheetNumbers h xs → length (sheet_text h xs) ≤ 65536 → sheet_narrow (sizes_of h) xs ≡ false
    → judged_text (sheet_text h xs) ≡ Refused 15
unfolding answered
sheet_wide h xs n fits wide = sheet_answer h xs n fits ∙ rw (failed (15, sheet_narrow (sizes_of h) xs) [] wide) refl

-- ---- what no text is answered

judgement_kind : (n : ℕ) (v : Verdict) → kind_of (answered n (Judged v)) ≤ 2
unfolding answered
judgement_kind zero (Accepted m) = omega arith
judgement_kind zero (Failed k) = omega arith
judgement_kind (suc n) v = omega arith

-- a text is longer than the program reads, or not
pub by_text_length : (P : Answer → Type 0) (text : List ℕ) → P (Refused 12)
    → (length text ≤ 65536 → P (answered (first_failing (text_tests text)) (Judged (text_verdict text)))) → P (judged_text text)
by_text_length P text longer other = step (leb (length text) 65536) refl
  where
    step : (t : Bool) → leb (length text) 65536 ≡ t → P (judged_text text)
    step true e = let h = leb-true (length text) 65536 e in subst P (sym (text-answer text h)) (other h)
    step false e = subst P (sym (refused-longer text (leb-false (length text) 65536 e))) longer

-- a text that is judged is a sheet: that of the numbers read from it, whose low digits are narrow
pub record Sheet (text : List ℕ) (v : Verdict) : Type 0 where
  pub text-is : text ≡ sheet_text (header_numbers text) (numbers_of text)
  pub numbers : SheetNumbers (header_numbers text) (numbers_of text)
  pub digits-narrow : sheet_narrow (sizes_of (header_numbers text)) (numbers_of text) ≡ true
  pub verdict-is : v ≡ text_verdict text

pub judgement_of : (n : ℕ) (v w : Verdict) → answered n (Judged w) ≡ Judged v → (n ≡ 0) × (v ≡ w)
unfolding answered
judgement_of zero v w e = (refl, sym cc)
judgement_of (suc n) v w e = let f : ◌≡◌ {A = ℕ} 0 1 = cc in absurd (omega arith)

pub judged_sheet : (text : List ℕ) (v : Verdict) → judged_text text ≡ Judged v → Sheet text v
unfolding reading
judged_sheet text v = by_text_length (λ (a : Answer). a ≡ Judged v → Sheet text v) text longer within
  where
    longer : Refused 12 ≡ Judged v → Sheet text v
    longer e = let f : ◌≡◌ {A = ℕ} 0 1 = cc in absurd (omega arith)

    within : length text ≤ 65536 → answered (first_failing (text_tests text)) (Judged (text_verdict text)) ≡ Judged v → Sheet text v
    within h e =
        let (none, same) = judgement_of (first_failing (text_tests text)) v _ e in
        let (read, thin) = read_and_narrow text none in
        let answer : reading (room_of text) text ≡ reader.Sheet (sheet_sizes_of (header_numbers text)) = rw read refl in
        let exactly = (sheet_exactly (room_of text) text (header_numbers text) (numbers_of text)).0
        (record { answer = answer; header = refl; numbers = refl }) in
        record { text-is = exactly.0; numbers = exactly.1; digits-narrow = thin; verdict-is = same }

pub kind_printed : (text : List ℕ) → kind_of (judged_text text) ≤ 2
kind_printed text = by_text_length (λ (a : Answer). kind_of a ≤ 2) text (omega arith) (λ h. judgement_kind _ _)

pub never-written : (text : List ℕ) → judged_text text ≡ Written → ⊥
never-written text e = let three : 3 ≤ 2 = subst (λ (a : Answer). kind_of a ≤ 2) e (kind_printed text) in omega arith

-- each test of row 7 in a list of tests holds
abbrev seven_holds : List (ℕ × Bool) → Bool
seven_holds [] = true
seven_holds (test ∷ tests) = cond (eqb test.0 7) (cond test.1 (seven_holds tests) false) (seven_holds tests)

no_seven : (tests : List (ℕ × Bool)) → seven_holds tests ≡ true → first_failing tests ≡ 7 → ⊥
unfolding first_failing
no_seven [] holds e = omega arith
no_seven (test ∷ tests) holds e = step (no_seven tests) test.1 (eqb test.0 7) refl holds e
  where
    step : (seven_holds tests ≡ true → first_failing tests ≡ 7 → ⊥) → (t u : Bool) → eqb test.0 7 ≡ u
        → cond u (cond t (seven_holds tests) false) (seven_holds tests) ≡ true
        → cond t (first_failing tests) test.0 ≡ 7 → ⊥
    step later true true q holds e = later holds e
    step later true false q holds e = later holds e
    step later false true q holds e = contradiction refl (sym holds)
    step later false false q holds e = contradiction (eq-eqb test.0 7 e) q

text-seven : (text : List ℕ) → seven_holds (text_tests text) ≡ true
unfolding reading_tests header_tests body_tests number_tests
text-seven text = rw (eq-eqb (room_of text) (room_of text) refl) refl

no-refused-seven : (n : ℕ) (v : Verdict) → (n ≡ 7 → ⊥) → answered n (Judged v) ≡ Refused 7 → ⊥
unfolding answered
no-refused-seven zero (Accepted m) never e = let f : ◌≡◌ {A = ℕ} 0 2 = ap kind_of e in omega arith
no-refused-seven zero (Failed k) never e = let f : ◌≡◌ {A = ℕ} 1 2 = ap kind_of e in omega arith
no-refused-seven (suc n) v never e = never (ap number_of e)

pub never-seven : (text : List ℕ) → judged_text text ≡ Refused 7 → ⊥
never-seven text =
    by_text_length (λ (a : Answer). a ≡ Refused 7 → ⊥) text (λ e. let f : ◌≡◌ {A = ℕ} 12 7 = ap number_of e in omega arith)
    (λ h. no-refused-seven _ _ (no_seven (text_tests text) (text-seven text)))
