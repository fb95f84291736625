-- What is promised of a case: the calls that it makes, and which of its numbers each is given. A list is followed by a mark, as m', where it
-- stands for the numbers after the call.
use Rattle.std.specs.Prelude.{◌≡◌, List, map, ℕ, ◌-◌, ℤ, length, drop}
use Rattle.capi.specs.declared.sizes.CSizes.{CSizes}
use Rattle.fold.specs.Arguments.{statement_of, draws_of, transcript_of, commit_sizes_of, garbage_sizes_of}
use Rattle.fold.specs.Statement.{Statement, Draws, Transcript}
use Rattle.fold.specs.Verification.{verification}
use Rattle.lizkarg.specs.Calls.{Committed, Projected, Aggregated, GarbageCommitted, Amortized}
use Rattle.fold.specs.Arguments.{part_refusal_of}
use Rattle.next_instance.specs.Calls.{NextCalled}
use Rattle.capi.specs.declared.types.CAnswer.{CAnswer}
use Rattle.capi.specs.Codes.{Coded, code_of, shape_from, z_from, sizes_from, part_sizes_from}
use Rattle.cases.specs.Numbers.{padded, word, size_at, two_digits, one_digit}
use Rattle.cases.specs.Lists.{past_lists, nth_list}
use Rattle.cases.specs.Text.{line_numbers}
use Rattle.cases.specs.Input.{wide_size}
use Rattle.next_cases.specs.Input.{sizes_of, part_sizes_of}
use Rattle.next_cases.specs.Messages.{filled, blank, message_of, opening_of, kept}
use Rattle.next_cases.specs.Witness.{witness_of}

-- ---- kind 1: A, B, C, D, the whole and the constant-term functions, u1, the rows, p, ψ, ω, b'', α, δ, u2, c

abbrev pub NextOfLists : CSizes → (ν μ : ℕ) → (lists out : List ℤ) → CAnswer → (out' : List ℤ) → Type 0
NextOfLists sizes ν μ lists out code out' =
    Coded
    (λ answer. NextCalled
    (statement_of (sizes_from sizes) (nth_list 0 lists) (nth_list 1 lists) (nth_list 2 lists) (nth_list 3 lists) (nth_list 4 lists) (nth_list 5 lists))
    (draws_of (nth_list 7 lists) (nth_list 9 lists) (nth_list 10 lists) (nth_list 12 lists) (nth_list 13 lists) (nth_list 15 lists))
    (transcript_of (nth_list 6 lists) (nth_list 8 lists) (nth_list 11 lists) (nth_list 14 lists)) ν μ out answer out')
    code

pub record InstanceRun (sizes : CSizes) (ν μ : ℕ) (xs : List ℤ) (code : CAnswer) : Type 0 where
  pub out' : List ℤ
  pub called : NextOfLists sizes ν μ (drop 19 xs) (filled (size_at 32768 (past_lists 16 (drop 19 xs)) 0)) code out'

-- ---- a fold: `lists` are A, B, C, D, the whole and the constant-term functions, the rows, ψ, ω, α, δ, c, the witness; the whole functions
-- and the witness s of the fold stand apart, since those of a second fold come from the first

pub record Committing (sizes : CSizes) (lists s lengths m : List ℤ) (code : CAnswer) (m' : List ℤ) : Type 0 where
  pub t' : List ℤ
  pub g' : List ℤ
  pub u' : List ℤ
  pub called : Coded
      (λ answer. Committed (commit_sizes_of (sizes_from sizes)) (nth_list 0 lists) (nth_list 1 lists) (nth_list 2 lists) s (blank lengths 1) (blank lengths 2)
      (blank lengths 4) answer t' g' u')
      code
  pub keeps : m' ≡ kept (kept (kept m lengths 1 t') lengths 2 g') lengths 4 u'

pub record Projecting (sizes : CSizes) (lists s lengths m : List ℤ) (code : CAnswer) (m' : List ℤ) : Type 0 where
  pub p' : List ℤ
  pub called : Coded (λ answer. Projected (shape_from sizes.shape) sizes.w (nth_list 6 lists) s (blank lengths 5) answer p') code
  pub keeps : m' ≡ kept m lengths 5 p'

pub record Aggregating (sizes : CSizes) (lists s lengths m : List ℤ) (code : CAnswer) (m' : List ℤ) : Type 0 where
  pub b' : List ℤ
  pub called : Coded
      (λ answer. Aggregated (shape_from sizes.shape) sizes.l sizes.w (nth_list 5 lists) (nth_list 6 lists) (nth_list 7 lists) (nth_list 8 lists) s
      (blank lengths 6) answer b')
      code
  pub keeps : m' ≡ kept m lengths 6 b'

pub record GarbageCommitting (sizes : CSizes) (lists whole s lengths m : List ℤ) (code : CAnswer) (m' : List ℤ) : Type 0 where
  pub h' : List ℤ
  pub u' : List ℤ
  pub called : Coded
      (λ answer. GarbageCommitted (garbage_sizes_of (sizes_from sizes)) whole (nth_list 5 lists) (nth_list 6 lists) (nth_list 7 lists) (nth_list 8 lists)
      (nth_list 9 lists) (nth_list 10 lists) (nth_list 3 lists) s (blank lengths 3) (blank lengths 7) answer h' u')
      code
  pub keeps : m' ≡ kept (kept m lengths 3 h') lengths 7 u'

pub record Amortizing (sizes : CSizes) (lists s lengths m : List ℤ) (code : CAnswer) (m' : List ℤ) : Type 0 where
  pub z' : List ℤ
  pub called : Coded (λ answer. Amortized (shape_from sizes.shape) (z_from sizes.one_digit sizes.b) (nth_list 11 lists) s (blank lengths 0) answer z') code
  pub keeps : m' ≡ kept m lengths 0 z'

-- what the verifier and the next instance are given
abbrev pub fold_statement : CSizes → (lists whole : List ℤ) → Statement
fold_statement sizes lists whole =
    statement_of (sizes_from sizes) (nth_list 0 lists) (nth_list 1 lists) (nth_list 2 lists) (nth_list 3 lists) whole (nth_list 5 lists)

abbrev pub fold_draws : (lists : List ℤ) → Draws
fold_draws lists =
    draws_of (nth_list 6 lists) (nth_list 7 lists) (nth_list 8 lists) (nth_list 9 lists) (nth_list 10 lists) (nth_list 11 lists)

abbrev pub fold_transcript : (lengths m : List ℤ) → Transcript
fold_transcript lengths m = transcript_of (message_of m lengths 4) (message_of m lengths 5) (message_of m lengths 6) (message_of m lengths 7)

abbrev pub verdict_of : CSizes → (lists whole lengths m : List ℤ) → CAnswer
verdict_of sizes lists whole lengths m =
    code_of (verification (fold_statement sizes lists whole) (fold_draws lists) (fold_transcript lengths m) (opening_of m lengths))

-- the five messages one after another, and the verdict on them
pub record Folded (sizes : CSizes) (lists whole s lengths m : List ℤ) (verdict : CAnswer) (m' : List ℤ) : Type 0 where
  pub code₁ : CAnswer
  pub code₂ : CAnswer
  pub code₃ : CAnswer
  pub code₄ : CAnswer
  pub code₅ : CAnswer
  pub m₁ : List ℤ
  pub m₂ : List ℤ
  pub m₃ : List ℤ
  pub m₄ : List ℤ
  pub message₁ : Committing sizes lists s lengths m code₁ m₁
  pub message₂ : Projecting sizes lists s lengths m₁ code₂ m₂
  pub message₃ : Aggregating sizes lists s lengths m₂ code₃ m₃
  pub message₄ : GarbageCommitting sizes lists whole s lengths m₃ code₄ m₄
  pub message₅ : Amortizing sizes lists s lengths m₄ code₅ m'
  pub verdict-is : verdict ≡ verdict_of sizes lists whole lengths m'

-- ---- kind 3

-- the next instance after a fold
abbrev pub NextOfFold : CSizes → (ν μ : ℕ) → (lists whole lengths m out : List ℤ) → CAnswer → (out' : List ℤ) → Type 0
NextOfFold sizes ν μ lists whole lengths m out code out' =
    Coded (λ answer. NextCalled (fold_statement sizes lists whole) (fold_draws lists) (fold_transcript lengths m) ν μ out answer out') code

-- the first fold, of its own whole functions and witness, and its next instance
pub record FirstRun (sizes : CSizes) (ν μ : ℕ) (lists lengths m m' out out' : List ℤ) : Type 0 where
  pub verdict : CAnswer
  pub folded : Folded sizes lists (nth_list 4 lists) (nth_list 12 lists) lengths m verdict m'
  pub code : CAnswer
  pub called : NextOfFold sizes ν μ lists (nth_list 4 lists) lengths m' out code out'

-- the second fold; the lengths stand after its lists
pub record SecondRun (sizes : CSizes) (whole s lists : List ℤ) (verdict : CAnswer) : Type 0 where
  pub m' : List ℤ
  pub folded : Folded sizes lists whole s (past_lists 13 lists) (filled 32768) verdict m'

-- after the first fold's lists its lengths, that of the next constraints among them, and after these the second fold's sizes
abbrev pub lengths_in : List ℤ → List ℤ
lengths_in xs = past_lists 13 (drop 19 xs)

abbrev pub second_in : List ℤ → List ℤ
second_in xs = drop 9 (lengths_in xs)

-- read where the numbers have all their bits
abbrev pub second_sizes : (wides xs : List ℤ) → CSizes
second_sizes wides xs = sizes_of (drop (length xs - length (second_in xs)) wides) 0

pub record TwiceRun (sizes : CSizes) (ν μ : ℕ) (wides xs : List ℤ) (verdict : CAnswer) : Type 0 where
  pub m' : List ℤ
  pub whole : List ℤ
  pub first : FirstRun sizes ν μ (drop 19 xs) (lengths_in xs) (filled 32768) m' (filled (size_at 32768 (lengths_in xs) 8)) whole
  pub second : SecondRun (second_sizes wides xs) whole
      (witness_of (part_sizes_of sizes ν μ) (second_sizes wides xs) (opening_of m' (lengths_in xs))) (drop 18 (second_in xs)) verdict

-- ---- a case: its kind, its sizes, what its kind has. r is the number of its last answer.

pub record InstanceNumber (sizes : CSizes) (ν μ : ℕ) (xs : List ℤ) (r : ℕ) : Type 0 where
  pub code : CAnswer
  pub ran : InstanceRun sizes ν μ xs code
  pub number_is : r ≡ code.number

pub record TwiceNumber (sizes : CSizes) (ν μ : ℕ) (wides xs : List ℤ) (r : ℕ) : Type 0 where
  pub code : CAnswer
  pub ran : TwiceRun sizes ν μ wides xs code
  pub number_is : r ≡ code.number

-- z has one digit where `one` is not 0
abbrev pub case_sizes : List ℤ → (one : ℕ) → CSizes
case_sizes wides one = sizes_of (drop 1 wides) one

pub record CaseRun (wides xs : List ℤ) (kind one r : ℕ) : Type 0 where
  pub instance : kind ≡ 1 → InstanceNumber (case_sizes wides one) (wide_size wides 15) (wide_size wides 16) xs r
  pub part : kind ≡ 2
      → r ≡ part_refusal_of (part_sizes_from (part_sizes_of (case_sizes wides one) (wide_size wides 15) (wide_size wides 16))) (wide_size wides 19) (nth_list 0 (drop 20 xs))
  pub twice : kind ≡ 3 → TwiceNumber (case_sizes wides one) (wide_size wides 15) (wide_size wides 16) wides xs r

-- kinds 4, 5 and 6 are 1, 2 and 3 with z in one digit; the numbers of a line, 4096 of them, and the same as numbers of 32 bits
abbrev pub LineRun : (line : List ℕ) (r : ℕ) → Type 0
LineRun line r =
    let wides = padded 4096 (line_numbers line) in
    let xs = map word wides in
    CaseRun wides xs (two_digits 3 3 (size_at 6 xs 0)) (one_digit 3 (size_at 6 xs 0)) r
