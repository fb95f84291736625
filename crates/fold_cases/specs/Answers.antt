-- The answer of each case: the call's, on the lists of the case by their numbers.
use Rattle.std.specs.Prelude.{cond, List, map, ℕ, eqb, ℤ, drop}
use Rattle.fold.specs.Answers.{Answer}
use Rattle.fold.specs.Answers.{Written}
use Rattle.capi.specs.declared.sizes.CSizes.{CSizes}
use Rattle.fold.specs.Answers.{answered}
use Rattle.fold.specs.Arguments.{statement_of, draws_of, transcript_of, commit_sizes_of, garbage_sizes_of}
use Rattle.fold.specs.Arguments.{commit_refusal, project_refusal, aggregate_refusal, garbage_refusal, amortize_refusal}
use Rattle.fold.specs.Verification.{verification}
use Rattle.capi.specs.Codes.{shape_from, z_from, sizes_from}
use Rattle.cases.specs.Numbers.{padded, word, size_at, two_digits, one_digit}
use Rattle.cases.specs.Text.{line_numbers}
use Rattle.cases.specs.Lists.{nth_list}
use Rattle.cases.specs.Input.{room}
use Rattle.fold_cases.specs.Input.{sizes_of}

module _ (sizes : CSizes) (xs : List ℤ) where
  unfoldable pub commit_answer : Answer
  commit_answer =
      answered
      (commit_refusal (commit_sizes_of (sizes_from sizes)) (nth_list 0 xs) (nth_list 1 xs) (nth_list 2 xs) (nth_list 3 xs) (room 4 0 xs) (room 4 1 xs) (room 4 2 xs))
      Written

  unfoldable pub project_answer : Answer
  project_answer = answered (project_refusal (shape_from sizes.shape) sizes.w (nth_list 0 xs) (nth_list 1 xs) (room 2 0 xs)) Written

  unfoldable pub aggregate_answer : Answer
  aggregate_answer =
      answered
      (aggregate_refusal (shape_from sizes.shape) sizes.l sizes.w (nth_list 0 xs) (nth_list 1 xs) (nth_list 2 xs) (nth_list 3 xs) (nth_list 4 xs)
      (room 5 0 xs))
      Written

  unfoldable pub garbage_answer : Answer
  garbage_answer =
      answered
      (garbage_refusal (garbage_sizes_of (sizes_from sizes)) (nth_list 0 xs) (nth_list 1 xs) (nth_list 2 xs) (nth_list 3 xs) (nth_list 4 xs) (nth_list 5 xs)
      (nth_list 6 xs) (nth_list 7 xs) (nth_list 8 xs) (room 9 0 xs) (room 9 1 xs))
      Written

  unfoldable pub amortize_answer : Answer
  amortize_answer = answered (amortize_refusal (shape_from sizes.shape) (z_from sizes.one_digit sizes.b) (nth_list 0 xs) (nth_list 1 xs) (room 2 0 xs)) Written

  unfoldable pub verify_answer : Answer
  verify_answer =
      verification
      (statement_of (sizes_from sizes) (nth_list 0 xs) (nth_list 1 xs) (nth_list 2 xs) (nth_list 3 xs) (nth_list 4 xs) (nth_list 5 xs))
      (draws_of (nth_list 7 xs) (nth_list 9 xs) (nth_list 10 xs) (nth_list 12 xs) (nth_list 13 xs) (nth_list 15 xs))
      (transcript_of (nth_list 6 xs) (nth_list 8 xs) (nth_list 11 xs) (nth_list 14 xs)) (nth_list 16 xs)

-- a call by its number
unfoldable pub call_answer : ℕ → CSizes → List ℤ → Answer
call_answer call sizes xs =
    cond (eqb call 1) (commit_answer sizes xs)
    (cond (eqb call 2) (project_answer sizes xs)
    (cond (eqb call 3) (aggregate_answer sizes xs)
    (cond (eqb call 4) (garbage_answer sizes xs) (cond (eqb call 5) (amortize_answer sizes xs) (verify_answer sizes xs)))))

-- a case by its numbers, with all their bits and as numbers of 32 bits
unfoldable pub case_answer : (wides words : List ℤ) → Answer
case_answer wides words = call_answer (two_digits 6 2 (size_at 8 words 0)) (sizes_of wides (one_digit 6 (size_at 8 words 0))) (drop 17 words)

-- the case of a line, of at most 16384 numbers
unfoldable pub line_answer : List ℕ → Answer
line_answer line = case_answer (padded 16384 (line_numbers line)) (map word (padded 16384 (line_numbers line)))
