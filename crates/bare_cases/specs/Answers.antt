-- The answer of each case: the call's, on the lists of the case by their numbers.
use Rattle.std.specs.Prelude.{cond, List, map, ℕ, eqb, ℤ, drop}
use Rattle.fold.specs.Answers.{Answer}
use Rattle.fold.specs.Answers.{Written}
use Rattle.capi.specs.declared.sizes.CBareSizes.{CBareSizes}
use Rattle.fold.specs.Answers.{answered}
use Rattle.fold.specs.Arguments.{draws_of}
use Rattle.bare.specs.Arguments.{bare_statement_of, bare_transcript_of, constraint_sizes_of, bare_verification}
use Rattle.bare.specs.Arguments.{bare_commit_refusal, bare_phi_refusal, bare_turn_refusal}
use Rattle.capi.specs.Codes.{shape_from, bare_sizes_from}
use Rattle.cases.specs.Numbers.{padded, word, size_at}
use Rattle.cases.specs.Text.{line_numbers}
use Rattle.cases.specs.Lists.{nth_list}
use Rattle.cases.specs.Input.{wide_size, room}
use Rattle.bare_cases.specs.Input.{sizes_of}

unfoldable pub commit_answer : CBareSizes → List ℤ → Answer
commit_answer sizes xs =
    answered (bare_commit_refusal (shape_from sizes.shape) sizes.kappa (nth_list 0 xs) (nth_list 1 xs) (room 2 0 xs)) Written

unfoldable pub phi_answer : CBareSizes → List ℤ → Answer
phi_answer sizes xs =
    answered
    (bare_phi_refusal (constraint_sizes_of (bare_sizes_from sizes)) (nth_list 0 xs) (nth_list 1 xs) (nth_list 2 xs) (nth_list 3 xs) (nth_list 4 xs) (nth_list 5 xs)
    (nth_list 6 xs) (room 7 0 xs))
    Written

unfoldable pub turn_answer : CBareSizes → (turn : ℕ) → List ℤ → Answer
turn_answer sizes turn xs =
    answered (bare_turn_refusal (shape_from sizes.shape) turn (nth_list 0 xs) (nth_list 1 xs) (nth_list 2 xs) (room 3 0 xs)) Written

unfoldable pub verify_answer : CBareSizes → List ℤ → Answer
verify_answer sizes xs =
    bare_verification
    (bare_statement_of (bare_sizes_from sizes) (nth_list 0 xs) (nth_list 1 xs) (nth_list 2 xs))
    (draws_of (nth_list 3 xs) (nth_list 5 xs) (nth_list 6 xs) (nth_list 8 xs) (nth_list 9 xs) (nth_list 10 xs))
    (bare_transcript_of (nth_list 4 xs) (nth_list 7 xs)) (nth_list 11 xs)

-- a call by its number
unfoldable pub call_answer : ℕ → CBareSizes → (turn : ℕ) → List ℤ → Answer
call_answer call sizes turn xs =
    cond (eqb call 1) (commit_answer sizes xs) (cond (eqb call 2) (phi_answer sizes xs) (cond (eqb call 3) (turn_answer sizes turn xs) (verify_answer sizes xs)))

-- a case by its numbers, with all their bits and as numbers of 32 bits
unfoldable pub case_answer : (wides words : List ℤ) → Answer
case_answer wides words = call_answer (size_at 4 words 0) (sizes_of wides) (wide_size wides 10) (drop 11 words)

-- the case of a line, of at most 16384 numbers
unfoldable pub line_answer : List ℕ → Answer
line_answer line = case_answer (padded 16384 (line_numbers line)) (map word (padded 16384 (line_numbers line)))
