-- Laws of the writer's answer.
--     header-small                       a header that is not refused has no number below zero, and none of more than 15 digits
--     fields_back, fields_fit            so its sizes give its numbers back, and they fit their columns
--     numbers-passed, passed-numbers     rows 1 to 10 refuse exactly what is not the numbers of a sheet
--     count-total                        the numbers of a sheet are as many as the sizes give
--     room_refusal, room_alone           13 is their only refusal, made where the buffer has not room for the text
--     early-first, early_refusal         a refusal by rows 1 to 10 comes before it
--     writing_passed, passed_writing     no test fails exactly where they are and the buffer has room for the text
--     writing_short, short_writing       13 is the refusal exactly where they are and it has not
--     is-length, is-refused              what an answer says of the refusal
--     write_is                           the promise fixes the answer
use Rattle.std.proofs.Math.Path.{◌≡◌, refl, sym, ap}
use Rattle.std.proofs.Common.{◌∙◌, append_assoc}
use Rattle.std.specs.Prelude.{Bool, cond, List, [], ◌∷◌, ◌++◌, map, ℕ, zero, suc, ◌≤◌, ◌<◌, ltb, get_or, ℤ, pos, negsuc}
use Rattle.std.proofs.Math.Bool.{true, false}
use native.Mathlib.Omega.{arith}
use Rattle.std.proofs.Math.Dec.{leb}
use Rattle.std.proofs.Math.ListN.{length}
use borrow.Author.Tests.{eqb-true, eq-eqb, leb-true, leb-false, le-leb, lt-leb, ltb-true}
use Rattle.integers.specs.Lists.{tab}
use Rattle.integers.specs.Laws.ListLaws.{tab_get_d}
use Rattle.integers.specs.Laws.Bridge.{zarith}
use Rattle.fold.specs.Answers as answer
use Rattle.fold.specs.declared.Sizes.{Sizes}
use Rattle.fold.specs.Answers.{kind_of, number_of, first_failing, answered}
use Rattle.fold.specs.Limits.{most_bound}
use Rattle.fold.specs.Sizes.{z_count}
use Rattle.fold.specs.Refusals.{between, degree, rank, parts, constraint_count, projection_count, commitment_rank, base, digit_count, chunks, length_bound}
use Rattle.fold.specs.Laws.RefusalLaws.{Passes, ◌&◌, refusal_passes, passes_refusal, passes-front, passes-back, passes-join}
use Rattle.fold.specs.Laws.RefusalLaws.{both_left, both_right, all_of_all, between_iff, degree-fits, chunks_iff}
use Rattle.fields.specs.Field.{Fits16}
use Rattle.fields.specs.Sections.{total}
use Rattle.fields.specs.Laws.PlaceLaws.{contradiction}
use Rattle.sheet.specs.declared.header.SheetSizes.{SheetSizes}
use Rattle.sheet.specs.Reading.{header_tests, size, sizes_of, sheet_sizes_of, number_tests, slice_tests}
use Rattle.sheet.specs.Layout.{fields, body_lines, AllFit, SheetNumbers}
use Rattle.sheet.specs.Laws.BodyLaws.{body-total}
use Rattle.sheet.specs.Laws.AnswerLaws.{refusal_first, refusal_rest}
use Rattle.writer.specs.WriteAnswer.{WriteAnswer}
use Rattle.writer.specs.WriteAnswer.{Length, Refused}
use Rattle.writer.specs.Writing.{header_words, header_fields, written_text, writing_tests, writing_refusal}
use Rattle.writer.specs.Writing.{length_answer, answer_of, length_of, length_if, SheetWritten}
use Rattle.writer.proofs.Laws.LengthLaws.{length_fields, sizes-given}

-- ---- the numbers of a header that is not refused

-- not below zero, and at most 15 digits
abbrev Small : List ℤ → Type 0
Small [] = Unit {0}
Small (x ∷ xs) = (between 0 most_bound x ≡ true) × Small xs

between-small : (low high : ℕ) (x : ℤ) → between low high x ≡ true → leb high most_bound ≡ true → between 0 most_bound x ≡ true
unfolding between
between-small low high (pos n) e h =
    (between_iff 0 most_bound n).1 (omega arith, omega (arith, leb-true high most_bound h, ((between_iff low high n).0 e).1))
between-small low high (negsuc n) e h = e

degree-small : (x : ℤ) → degree x ≡ true → between 0 most_bound x ≡ true
unfolding degree
degree-small (pos n) e = (between_iff 0 most_bound n).1 (omega arith, omega (arith, (degree-fits n e).small))
degree-small (negsuc n) e = contradiction e refl

chunks-small : (ν μ : ℤ) → chunks z_count ν μ ≡ true → (between 0 most_bound ν ≡ true) × (between 0 most_bound μ ≡ true)
unfolding chunks
chunks-small (pos ν) (pos μ) e =
    let limits = ((chunks_iff z_count ν μ).0 e).1.1 in
    ((between_iff 0 most_bound ν).1 (omega arith, omega (arith, limits)), (between_iff 0 most_bound μ).1 (omega arith, omega (arith, limits)))
chunks-small (pos ν) (negsuc μ) e = contradiction e refl
chunks-small (negsuc ν) μ e = contradiction e refl

-- a header of 18 numbers is the list of its numbers by place
header-numbers : (h : List ℤ) → length h ≡ 18 → tab 18 (λ i. get_or h i (pos 0)) ≡ h
header-numbers h e = ap (λ (n : ℕ). tab n (λ i. get_or h i (pos 0))) (sym e) ∙ tab_get_d h (pos 0)

tests-small : (h : List ℤ) → Passes (header_tests h) → Small (tab 18 (λ i. get_or h i (pos 0)))
unfolding header_tests tab rank parts constraint_count projection_count commitment_rank base digit_count length_bound
tests-small h (one, (two, (three, (four, (five, (six, end)))))) =
    let (n, (r, (k, (l, (w, _))))) = all_of_all _ two in
    let (κ, (κ₁, (κ₂, _))) = all_of_all _ three in
    let (b, (b₁, (b₂, (t₁, (t₂, _))))) = all_of_all _ four in
    let (ν, μ) = chunks-small _ _ five in
    let (β², (β'², _)) = all_of_all _ six in
    degree-small _ one
    & between-small _ _ _ n refl
    & between-small _ _ _ r refl
    & between-small _ _ _ k refl
    & between-small _ _ _ l refl
    & between-small _ _ _ w refl
    & between-small _ _ _ κ refl
    & between-small _ _ _ κ₁ refl
    & between-small _ _ _ κ₂ refl
    & between-small _ _ _ b refl
    & between-small _ _ _ b₁ refl
    & between-small _ _ _ b₂ refl
    & between-small _ _ _ t₁ refl
    & between-small _ _ _ t₂ refl
    & ν
    & μ
    & β²
    & β'²
    & tt

header-small : (h : List ℤ) → length h ≡ 18 → first_failing (header_tests h) ≡ 0 → Small h
unfolding header_tests
header-small h n e = rw (header-numbers h n) at (tests-small h (refusal_passes (header_tests h) refl e))

-- ---- its sizes give its numbers back, and they fit

small-back : (xs : List ℤ) → Small xs → map pos (map size xs) ≡ xs
unfolding between size
small-back [] p = refl
small-back (pos n ∷ xs) p = ap (λ (l : List ℤ). pos n ∷ l) (small-back xs p.1)
small-back (negsuc n ∷ xs) p = contradiction p.0 refl

number_fits : (x : ℤ) → between 0 most_bound x ≡ true → Fits16 x
unfolding between
number_fits (pos n) e =
    let most = ((between_iff 0 most_bound n).0 e).1 in
    record { least = omega zarith; most = omega (zarith, most) }
number_fits (negsuc n) e = contradiction e refl

small-fit : (xs : List ℤ) → Small xs → AllFit xs
small-fit [] p i h = let never : ⊥ = omega arith in absurd never
small-fit (x ∷ xs) p zero h = number_fits x p.0
small-fit (x ∷ xs) p (suc i) h = small-fit xs p.1 i (omega arith)

listed : (h : List ℤ) → header_fields (sheet_sizes_of h) ≡ map pos (map size (tab 18 (λ i. get_or h i (pos 0))))
unfolding header_fields header_words sizes_of tab
listed h = refl

pub fields_back : (h : List ℤ) → length h ≡ 18 → first_failing (header_tests h) ≡ 0 → header_fields (sheet_sizes_of h) ≡ h
fields_back h n e = listed h ∙ rw (header-numbers h n) (small-back h (header-small h n e))

fields_fit : (h : SheetSizes) → first_failing (header_tests (header_fields h)) ≡ 0 → AllFit (header_fields h)
fields_fit h e = small-fit (header_fields h) (header-small (header_fields h) (length_fields h) e)

-- ---- rows 1 to 10, and 13 after them

-- what is tested of the numbers alone
abbrev pub all_number_tests : SheetSizes → List ℤ → List (ℕ × Bool)
all_number_tests h xs = header_tests (header_fields h) ++ slice_tests (length xs) h.sizes xs

pub numbers-passed : (h : SheetSizes) (xs : List ℤ) → first_failing (all_number_tests h xs) ≡ 0 → SheetNumbers (header_fields h) xs
unfolding header_tests number_tests
numbers-passed h xs e =
    let rows = header_tests (header_fields h) in
    let p = refusal_passes (all_number_tests h xs) refl e in
    let header = passes_refusal rows (passes-front rows (slice_tests (length xs) h.sizes xs) p) in
    let (seven, rest) = passes-back rows (slice_tests (length xs) h.sizes xs) p in
    record {
      header = length_fields h;
      fit = fields_fit h header;
      sizes = header;
      count = rw (sizes-given h) (eqb-true (length xs) (total h.sizes) seven ∙ sym (body-total h.sizes));
      numbers = rw (sizes-given h) (passes_refusal (number_tests h.sizes xs) rest);
    }

pub count-total : (h : SheetSizes) (xs : List ℤ) → SheetNumbers (header_fields h) xs → length xs ≡ total h.sizes
count-total h xs n = n.count ∙ ap (λ (s : Sizes). fields (body_lines s)) (sizes-given h) ∙ body-total h.sizes

passed-numbers : (h : SheetSizes) (xs : List ℤ) → SheetNumbers (header_fields h) xs → first_failing (all_number_tests h xs) ≡ 0
unfolding header_tests number_tests
passed-numbers h xs n =
    let rows = header_tests (header_fields h) in
    let numbers = refusal_passes (number_tests h.sizes xs) refl (rw (sizes-given h) at n.numbers) in
    passes_refusal (all_number_tests h xs)
    (passes-join rows (slice_tests (length xs) h.sizes xs) (refusal_passes rows refl n.sizes)
    (eq-eqb (length xs) (total h.sizes) (count-total h xs n), numbers))

-- each of these tests has a number below k; computes on a list of tests
abbrev numbered_below : ℕ → List (ℕ × Bool) → Bool
numbered_below k [] = true
numbered_below k (test ∷ tests) = cond (ltb test.0 k) (numbered_below k tests) false

refusal_below : (k : ℕ) (tests : List (ℕ × Bool)) → 0 < k → numbered_below k tests ≡ true → first_failing tests < k
unfolding first_failing
refusal_below k [] h l = h
refusal_below k (test ∷ tests) h l =
    step test.1 (refusal_below k tests h (both_right (ltb test.0 k) (numbered_below k tests) l))
  where
    step : (t : Bool) → first_failing tests < k → cond t (first_failing tests) test.0 < k
    step true rest = rest
    step false rest = ltb-true test.0 k (both_left (ltb test.0 k) (numbered_below k tests) l)

-- the first tests pass where the refusal is none of theirs
early-none : (tests rest : List (ℕ × Bool)) (n : ℕ) → first_failing (tests ++ rest) ≡ n → (0 < n → first_failing tests ≡ n → ⊥)
    → first_failing tests ≡ 0
early-none tests rest n e never = step (first_failing tests) refl
  where
    step : (m : ℕ) → first_failing tests ≡ m → first_failing tests ≡ 0
    step zero q = q
    step (suc m) q =
        let same : first_failing tests ≡ n = refusal_first tests rest (omega (arith, q)) ∙ e in
        absurd (never (omega (arith, same, q)) same)

module _ (room : ℕ) (h : SheetSizes) (xs : List ℤ) where
  room_test : List (ℕ × Bool)
  room_test = (13, leb (length (written_text h xs)) room) ∷ []

  last : writing_tests room h xs ≡ all_number_tests h xs ++ room_test
  unfolding writing_tests room_test
  last = sym (append_assoc (header_tests (header_fields h)) (slice_tests (length xs) h.sizes xs) room_test)

  pub room_refusal : SheetNumbers (header_fields h) xs → first_failing (writing_tests room h xs) ≡ cond (leb (length (written_text h xs)) room) 0 13
  unfolding header_tests number_tests room_test first_failing
  room_refusal n =
      ap first_failing last ∙ refusal_rest (all_number_tests h xs) room_test (refusal_passes (all_number_tests h xs) refl (passed-numbers h xs n))

  -- a refusal by rows 1 to 10 comes first
  pub early-first : 0 < first_failing (all_number_tests h xs) → first_failing (all_number_tests h xs) ≡ first_failing (writing_tests room h xs)
  early-first some = refusal_first (all_number_tests h xs) room_test some ∙ ap first_failing (sym last)

  pub early_refusal : {n : ℕ} → first_failing (all_number_tests h xs) ≡ suc n → first_failing (writing_tests room h xs) ≡ suc n
  early_refusal e = sym (early-first (omega (arith, e))) ∙ e

  -- the numbers of a sheet are refused by 13 alone
  pub room_alone : SheetNumbers (header_fields h) xs → {n : ℕ} → first_failing (writing_tests room h xs) ≡ n → 0 < n → n ≡ 13
  room_alone s {n} e some = step (leb (length (written_text h xs)) room) (sym (room_refusal s) ∙ e)
    where
      step : (t : Bool) → cond t 0 13 ≡ n → n ≡ 13
      step true q = let never : ⊥ = omega (arith, q, some) in absurd never
      step false q = sym q

  pub passed_writing : SheetNumbers (header_fields h) xs → length (written_text h xs) ≤ room → first_failing (writing_tests room h xs) ≡ 0
  passed_writing n fits = room_refusal n ∙ rw (le-leb (length (written_text h xs)) room fits) refl

  pub short_writing : SheetNumbers (header_fields h) xs → room < length (written_text h xs) → first_failing (writing_tests room h xs) ≡ 13
  short_writing n short = room_refusal n ∙ rw (lt-leb (length (written_text h xs)) room short) refl

  pub writing_passed : first_failing (writing_tests room h xs) ≡ 0 → SheetNumbers (header_fields h) xs × (length (written_text h xs) ≤ room)
  writing_passed e =
      let none = early-none (all_number_tests h xs) room_test 0 (sym (ap first_failing last) ∙ e) (λ some same. omega arith) in
      let n = numbers-passed h xs none in
      (n, step (leb (length (written_text h xs)) room) refl (sym (room_refusal n) ∙ e))
    where
      step : (t : Bool) → leb (length (written_text h xs)) room ≡ t → ◌≡◌ {A = ℕ} (cond t 0 13) 0 → length (written_text h xs) ≤ room
      step true q e = leb-true (length (written_text h xs)) room q
      step false q e = let never : ⊥ = omega arith in absurd never

  pub writing_short : first_failing (writing_tests room h xs) ≡ 13 → SheetNumbers (header_fields h) xs × (room < length (written_text h xs))
  unfolding header_tests number_tests
  writing_short e =
      let below = refusal_below 13 (all_number_tests h xs) (omega arith) refl in
      let none = early-none (all_number_tests h xs) room_test 13 (sym (ap first_failing last) ∙ e) (λ some same. omega (arith, below, same)) in
      let n = numbers-passed h xs none in
      (n, step (leb (length (written_text h xs)) room) refl (sym (room_refusal n) ∙ e))
    where
      step : (t : Bool) → leb (length (written_text h xs)) room ≡ t → ◌≡◌ {A = ℕ} (cond t 0 13) 13 → room < length (written_text h xs)
      step true q e = let never : ⊥ = omega arith in absurd never
      step false q e = leb-false (length (written_text h xs)) room q

-- ---- the answer

pub is-length : (n k m : ℕ) → length_answer n k ≡ Length m → (n ≡ 0) × (m ≡ k)
is-length zero k m e = (refl, cc)
is-length (suc n) k m e = let f : ◌≡◌ {A = ℕ} 0 1 = cc in absurd (omega arith)

pub is-refused : (n k r : ℕ) → length_answer n k ≡ Refused r → (n ≡ r) × (0 < r)
is-refused zero k r e = let f : ◌≡◌ {A = ℕ} 0 1 = cc in absurd (omega arith)
is-refused (suc n) k r e = let f : suc n ≡ r = cc in (f, omega arith)

pub write_is : (h : SheetSizes) (xs : List ℤ) (before : List ℕ) {wrote : WriteAnswer} {after : List ℕ} → SheetWritten h xs before wrote after
    → wrote ≡ length_answer (writing_refusal h xs before) (length (written_text h xs))
unfolding answered
write_is h xs before {wrote} p = step (writing_refusal h xs before) wrote p.answer-is p.length-is
  where
    step : (n : ℕ) (wrote : WriteAnswer) → answer_of wrote ≡ answered n answer.Written → length_of wrote ≡ length_if n (length (written_text h xs))
        → wrote ≡ length_answer n (length (written_text h xs))
    step zero (Length m) a l = ap Length l
    step zero (Refused m) a l = let f : ◌≡◌ {A = ℕ} 2 3 = ap kind_of a in absurd (omega arith)
    step (suc n) (Refused m) a l = ap Refused (ap number_of a)
    step (suc n) (Length m) a l = let f : ◌≡◌ {A = ℕ} 3 2 = ap kind_of a in absurd (omega arith)
