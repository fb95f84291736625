-- SPECIFICATION 10.7 and 8.7: "kind (0 accepted, 1 failed, 2 refused) and number (the margin when accepted, the check that failed, the row that
-- refused)"; "the answer is "written", which is no judgement". The one definition of what each answer says.
use Rattle.std.specs.Prelude.{Bool, true, cond, List, [], ◌∷◌, ℕ, zero, suc, eqb, Result, Ok, Err}
use Rattle.fold.specs.declared.answers.Refusal.{Refusal}
use Rattle.fold.specs.Rows.{row_of}

-- a judgement: accepted with a margin, or failed with the number of a check
pub data Verdict : Type 0 where
  Accepted : ℕ → Verdict
  Failed : ℕ → Verdict

-- an answer: refused by the number of a row, a judgement, or that everything asked for was written
pub data Answer : Type 0 where
  Refused : ℕ → Answer
  Judged : Verdict → Answer
  Written : Answer

abbrev pub kind_of : Answer → ℕ
kind_of (Refused n) = 2
kind_of (Judged (Accepted m)) = 0
kind_of (Judged (Failed n)) = 1
kind_of Written = 3

abbrev pub number_of : Answer → ℕ
number_of (Refused n) = n
number_of (Judged (Accepted m)) = m
number_of (Judged (Failed n)) = n
number_of Written = 0

-- "The first check that fails is named"; "Lowest number first; a call tests only what it takes." Each test with its number; 0 where none fails.
unfoldable pub first_failing : List (ℕ × Bool) → ℕ
first_failing [] = 0
first_failing (test ∷ tests) = cond test.1 (first_failing tests) test.0

-- the test with number k, the first of them; true where the list has none
abbrev pub test_of : ℕ → List (ℕ × Bool) → Bool
test_of k [] = true
test_of k (test ∷ tests) = cond (eqb test.0 k) test.1 (test_of k tests)

-- "none means accepted, with the margin"
unfoldable pub judged : (failing margin : ℕ) → Verdict
judged zero m = Accepted m
judged (suc k) m = Failed (suc k)

-- a refusal, or where there is none what the call answers
unfoldable pub answered : ℕ → Answer → Answer
answered zero answer = answer
answered (suc n) answer = Refused (suc n)

-- a failed check, or where there is none what the call answers
unfoldable pub checked : ℕ → Answer → Answer
checked zero answer = answer
checked (suc k) answer = Judged (Failed (suc k))

-- "Nothing lent is written", "nothing is written": the new numbers, or on a refusal or a failed check those that were there
unfoldable pub written : {A : Type 0} → ℕ → List A → List A → List A
written zero new old = new
written (suc n) new old = old

-- ---- the answer that a call's result is

-- where `number` numbers the checks
abbrev pub verdict_of : {E : Type 0} → (number : E → ℕ) → Result ℕ E → Verdict
verdict_of number (Ok m) = Accepted m
verdict_of number (Err k) = Failed (number k)

-- of a verifier
abbrev pub judgement_of : {E : Type 0} → (number : E → ℕ) → Result (Result ℕ E) Refusal → Answer
judgement_of number (Ok verdict) = Judged (verdict_of number verdict)
judgement_of number (Err r) = Refused (row_of r)

-- of a call that writes, or that answers what it was asked for
abbrev pub written_of : {A : Type 0} → Result A Refusal → Answer
written_of (Ok a) = Written
written_of (Err r) = Refused (row_of r)

-- of one that writes where no check fails
abbrev pub next_of : {E : Type 0} → (number : E → ℕ) → Result (Result Unit E) Refusal → Answer
next_of number (Ok (Ok u)) = Written
next_of number (Ok (Err k)) = Judged (Failed (number k))
next_of number (Err r) = Refused (row_of r)
