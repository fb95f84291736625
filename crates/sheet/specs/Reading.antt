-- SPECIFICATION 10: what a reader answers. "The header's layout is read first (12), then 1 to 6, then the other lines (12), then 8 to 10."
-- Row 7 stands before 8: "a slice's length is not what the sizes give", of the slice that takes the numbers. No limit on the text's length
-- here: it is the program's.
--     header_numbers, sizes_of      the header's numbers, and the sizes that the fold takes from them
--     sheet_sizes_of                those with ν and μ
--     number_count                 how many numbers the sizes give
--     body_numbers                 the numbers after the header
--     slice_tests                  what is tested of numbers: the writer makes the same tests
--     reading_tests, reading       the tests in their order, and the answer
--     answer_of, header_of          number and values of each answer: SPECIFICATION 13.7
--     SheetRead                   the reader's promise
use Rattle.std.specs.Prelude.{◌≡◌, Bool, false, cond, List, [], ◌∷◌, ◌++◌, ℕ, zero, suc, ◌*◌, eqb, length, get_or, ℤ, pos, negsuc}
use Rattle.integers.specs.Lists.{tab}
use Rattle.residues.specs.Range.{coefficients, projection_entries}
use Rattle.fold.specs.Answers.{Answer}
use Rattle.fold.specs.Answers as answer
use Rattle.fold.specs.Answers.{first_failing, answered, written}
use Rattle.fold.specs.declared.Sizes.{Sizes}
use Rattle.fold.specs.Sizes.{z_count}
use Rattle.fold.specs.Refusals.{size_rows, bound_rows, chunks, challenges}
use Rattle.sheet.specs.declared.header.SheetSizes.{SheetSizes}
use Rattle.fields.specs.declared.sizes.Sections.{Sections}
use Rattle.sheet.specs.SheetAnswer.{SheetAnswer}
use Rattle.sheet.specs.SheetAnswer.{Sheet, Refused}
use Rattle.sheet.specs.Lists.{list_lengths, list_at}
use Rattle.fields.specs.Sections.{sections_of, total, ends_line}
use Rattle.fields.specs.Place.{place, laid, number_at, numbers_from}
use Rattle.fields.specs.Field.{header_bytes}

-- ---- the header: "d n r K L w κ κ1 κ2 b b1 b2 t1 t2 ν μ β² β'²", one line of 18 fields

abbrev pub header_sections : Sections
header_sections = record { d = 18; head = 18; period = 1; terms = 0; middle = 0; ones = 0 }

unfoldable pub header_laid : List ℕ → Bool
header_laid text = laid (ends_line header_sections) 0 text 18

unfoldable pub header_numbers : List ℕ → List ℤ
header_numbers text = tab 18 (λ k. number_at text (16 * k))

-- rows 1 to 6
unfoldable pub header_tests : List ℤ → List (ℕ × Bool)
header_tests h =
    size_rows (at 0) (at 1) (at 2) (at 3) (at 4) (at 5) (at 6) (at 7) (at 8) (at 9) (at 10) (at 11) (at 12) (at 13)
    ++ ((5, chunks z_count (at 14) (at 15)) ∷ bound_rows (at 16) (at 17))
  where
    at : ℕ → ℤ
    at k = get_or h k (pos 0)

-- a number as a size: one below zero, which is no size, as one past every limit
unfoldable pub size : ℤ → ℕ
size (pos n) = n
size (negsuc n) = 18446744073709551615

-- the sizes that the fold takes; ν and μ stand beside them
unfoldable pub sizes_of : List ℤ → Sizes
sizes_of h = record {
  shape = record { d = at 0; n = at 1; r = at 2 };
  k = at 3;
  l = at 4;
  w = at 5;
  kappa = at 6;
  kappa1 = at 7;
  kappa2 = at 8;
  b = at 9;
  b1 = at 10;
  b2 = at 11;
  t1 = at 12;
  t2 = at 13;
  bound = at 16;
  target = at 17;
}
  where
    at : ℕ → ℕ
    at k = size (get_or h k (pos 0))

-- all that the header says
abbrev pub sheet_sizes_of : List ℤ → SheetSizes
sheet_sizes_of h = record { sizes = sizes_of h; nu = size (get_or h 14 (pos 0)); mu = size (get_or h 15 (pos 0)) }

-- "The header's layout is read first (12), then 1 to 6"
abbrev pub front_tests : List ℕ → List (ℕ × Bool)
front_tests text = (12, header_laid text) ∷ header_tests (header_numbers text)

-- how many numbers the header's sizes give; 0 where the header is refused
unfoldable pub number_count : List ℕ → ℕ
number_count text = cond (eqb (first_failing (front_tests text)) 0) (total (sizes_of (header_numbers text))) 0

-- ---- the other lines

unfoldable pub body_laid : Sizes → List ℕ → Bool
body_laid s text =
    cond (laid (ends_line (sections_of s)) header_bytes text (total s)) (eqb (place (ends_line (sections_of s)) header_bytes (total s)) (length text)) false

unfoldable pub body_numbers : Sizes → List ℕ → List ℤ
body_numbers s text = numbers_from (ends_line (sections_of s)) header_bytes text 0 (total s)

-- the projection rows and the challenges among the numbers after the header
unfoldable pub projections_in : Sizes → List ℤ → List ℤ
projections_in s xs = list_at (list_lengths s) xs 7

unfoldable pub challenges_in : Sizes → List ℤ → List ℤ
challenges_in s xs = list_at (list_lengths s) xs 15

-- rows 8 to 10
unfoldable pub number_tests : Sizes → List ℤ → List (ℕ × Bool)
number_tests s xs =
    (8, coefficients xs)
    ∷ (9, projection_entries (projections_in s xs))
    ∷ (10, challenges s.shape.d s.shape.r (challenges_in s xs))
    ∷ []

-- what reader and writer test of numbers alike: row 7 for a slice of `count` numbers, then 8 to 10
abbrev pub slice_tests : ℕ → Sizes → List ℤ → List (ℕ × Bool)
slice_tests count s xs = (7, eqb count (total s)) ∷ number_tests s xs

unfoldable pub body_tests : ℕ → Sizes → List ℕ → List (ℕ × Bool)
body_tests room s text = (12, body_laid s text) ∷ slice_tests room s (body_numbers s text)

-- ---- the answer, where the slice that takes the numbers has the length `room`

unfoldable pub reading_tests : ℕ → List ℕ → List (ℕ × Bool)
reading_tests room text = front_tests text ++ body_tests room (sizes_of (header_numbers text)) text

abbrev pub sheet_if : ℕ → SheetSizes → SheetAnswer
sheet_if zero s = Sheet s
sheet_if (suc n) s = Refused (suc n)

unfoldable pub reading : ℕ → List ℕ → SheetAnswer
reading room text = sheet_if (first_failing (reading_tests room text)) (sheet_sizes_of (header_numbers text))

-- ---- what the answer says

-- a refusal by its number, or "written": the numbers are in the slice
abbrev pub answer_of : SheetAnswer → Answer
answer_of (Refused n) = answer.Refused n
answer_of (Sheet s) = answer.Written

-- the header without numbers: every size is 0
unfoldable pub empty_header : SheetSizes
empty_header = sheet_sizes_of []

-- "the answer holds the number only": a refusal has no header
abbrev pub header_of : SheetAnswer → SheetSizes
header_of (Refused n) = empty_header
header_of (Sheet s) = s

-- the header, or on a refusal the one without numbers
abbrev pub header_if : ℕ → SheetSizes → SheetSizes
header_if zero s = s
header_if (suc n) s = empty_header

-- the refusal of a reader whose slice holds `before`; 0 where there is none
abbrev pub reading_refusal : List ℕ → List ℤ → ℕ
reading_refusal text before = first_failing (reading_tests (length before) text)

-- The reader's promise: its answer's number, the header, and the numbers of the lent slice afterwards. They fix the answer: `read_is` of
-- AnswerLaws.
pub record SheetRead (text : List ℕ) (before : List ℤ) (read : SheetAnswer) (after : List ℤ) : Type 0 where
  pub answer-is : answer_of read ≡ answered (reading_refusal text before) answer.Written
  pub header_is : header_of read ≡ header_if (reading_refusal text before) (sheet_sizes_of (header_numbers text))
  pub numbers_are : after ≡ written (reading_refusal text before) (body_numbers (sizes_of (header_numbers text)) text) before
