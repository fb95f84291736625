-- SPECIFICATION 10.12 to 10.15: "A writer turns the numbers of a sheet into its one text, into a lent buffer, and answers the text's length." It
-- makes the tests that the reader makes of the same numbers, 1 to 6 and 7 to 10, and "13, after 11, exactly when the buffer is shorter than the
-- text".
--     header_words, header_fields, written_text    the numbers of a header, and the text
--     element_lines, text_bytes                   how many bytes the text has, by the sizes
--     sheet_bytes                                the same, 0 for sizes that are refused: the question beside the writer
--     writing_tests, writing_refusal              the tests in their order, for a buffer of `room` bytes, and the first that fails
--     length_answer                              the answer by the refusal and the length
--     answer_of, length_of, length_if              number and length of each answer (SPECIFICATION 13.7), and the length by the refusal
--     SheetWritten                              the writer's promise
use Rattle.std.specs.Prelude.{◌≡◌, Bool, cond, List, [], ◌∷◌, ◌++◌, map, ℕ, zero, suc, ◌+◌, ◌*◌, eqb, leb, length, ℤ, pos}
use Rattle.integers.specs.Over.{over}
use Rattle.fold.specs.Answers.{Answer}
use Rattle.fold.specs.Answers as answer
use Rattle.fold.specs.Answers.{first_failing, answered, written}
use Rattle.fold.specs.Sizes.{function_size}
use Rattle.fold.specs.declared.Sizes.{Sizes}
use Rattle.fields.specs.Sections.{matrix_count, whole_count, row_count, last_count}
use Rattle.fields.specs.Field.{header_bytes}
use Rattle.sheet.specs.declared.header.SheetSizes.{SheetSizes}
use Rattle.sheet.specs.Layout.{sheet_text}
use Rattle.sheet.specs.Reading.{header_tests, slice_tests}
use Rattle.writer.specs.WriteAnswer.{WriteAnswer}
use Rattle.writer.specs.WriteAnswer.{Length, Refused}

-- ---- the text

-- "Header: d n r K L w κ κ1 κ2 b b1 b2 t1 t2 ν μ β² β'²."
unfoldable pub header_words : SheetSizes → List ℕ
header_words h =
    let s = h.sizes in
    s.shape.d
    ∷ s.shape.n
    ∷ s.shape.r
    ∷ s.k
    ∷ s.l
    ∷ s.w
    ∷ s.kappa
    ∷ s.kappa1
    ∷ s.kappa2
    ∷ s.b
    ∷ s.b1
    ∷ s.b2
    ∷ s.t1
    ∷ s.t2
    ∷ h.nu
    ∷ h.mu
    ∷ s.bound
    ∷ s.target
    ∷ []

unfoldable pub header_fields : SheetSizes → List ℤ
header_fields h = map pos (header_words h)

-- "its one text"
unfoldable pub written_text : SheetSizes → List ℤ → List ℕ
written_text h xs = sheet_text (header_fields h) xs

-- ---- how long it is

-- the lines of d numbers after the header
unfoldable pub element_lines : Sizes → ℕ
element_lines s = matrix_count s + (whole_count s + (s.l * function_size s.shape.n s.shape.r + (row_count s + last_count s)))

-- "With E lines of d fields, the text has 289 + (16d + 1)·E + 17·6·(L + w) bytes"
unfoldable pub text_bytes : Sizes → ℕ
text_bytes s = header_bytes + ((16 * s.shape.d + 1) * element_lines s + 17 * (6 * (s.l + s.w)))

-- the length for sizes that are not refused; 0 where they are
unfoldable pub sheet_bytes : SheetSizes → ℕ
sheet_bytes h = cond (eqb (first_failing (header_tests (header_fields h))) 0) (text_bytes h.sizes) 0

-- ---- the answer, where the buffer has the length `room`

unfoldable pub writing_tests : ℕ → SheetSizes → List ℤ → List (ℕ × Bool)
writing_tests room h xs =
    header_tests (header_fields h) ++ (slice_tests (length xs) h.sizes xs ++ ((13, leb (length (written_text h xs)) room) ∷ []))

-- the refusal of a writer whose buffer holds `before`; 0 where there is none
abbrev pub writing_refusal : SheetSizes → List ℤ → List ℕ → ℕ
writing_refusal h xs before = first_failing (writing_tests (length before) h xs)

-- a length, or the refusal where there is one
abbrev pub length_answer : ℕ → ℕ → WriteAnswer
length_answer zero m = Length m
length_answer (suc n) m = Refused (suc n)

-- ---- what the answer says

-- a refusal by its number, or "written": the text is in the buffer
abbrev pub answer_of : WriteAnswer → Answer
answer_of (Refused n) = answer.Refused n
answer_of (Length m) = answer.Written

-- "the answer holds the number only": a refusal has no length
abbrev pub length_of : WriteAnswer → ℕ
length_of (Refused n) = 0
length_of (Length m) = m

-- the length, or 0 on a refusal
abbrev pub length_if : ℕ → ℕ → ℕ
length_if zero m = m
length_if (suc n) m = 0

-- The writer's promise: its answer's number, the text's length, and the buffer afterwards, the text over its front. They fix the answer:
-- `write_is` of AnswerLaws.
pub record SheetWritten (h : SheetSizes) (xs : List ℤ) (before : List ℕ) (wrote : WriteAnswer) (after : List ℕ) : Type 0 where
  pub answer-is : answer_of wrote ≡ answered (writing_refusal h xs before) answer.Written
  pub length-is : length_of wrote ≡ length_if (writing_refusal h xs before) (length (written_text h xs))
  pub bytes_are : after ≡ written (writing_refusal h xs before) (over before 0 (written_text h xs)) before
