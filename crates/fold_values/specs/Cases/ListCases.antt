-- SPECIFICATION 7.7 to 7.10: each list of each call in turn too long, too short, then out of range, computed; and the lowest number
-- where two rows apply. Sizes that differ give lengths that differ: d = 2, n = 2, r = 2, K = 3, L = 2, w = 3, κ = 1, κ1 = 2, κ2 = 3, t1 = 2,
-- t2 = 3, ν = 1, μ = 2. All other numbers are zero.
use Rattle.std.specs.Prelude.{◌≡◌, refl, cond, List, [], ◌∷◌, ◌++◌, map, ℕ, ◌+◌, ◌-◌, eqb, length, get_or, replicate, ℤ}
use Rattle.integers.specs.Literals.{+◌, -◌, ◌zeros∷◌}
use Rattle.integers.specs.Lists.{tab}
use Rattle.fold.specs.Answers.{first_failing}
use Rattle.fold.specs.Statement.{Statement, Draws, Transcript}
use Rattle.fold.specs.Refusals.{commit_tests, project_tests, aggregate_tests, garbage_tests, amortize_tests}
use Rattle.fold.specs.Refusals.{prover_tests, verify_tests, next_tests, part_tests}
use Rattle.fold_values.specs.Cases.Computing.{fold_computes}

-- ---- what is said of a call: its refusal as a function of its lists, by place

-- a list in the place of another, and the row that it breaks
abbrev pub Change : Type 0
Change = ℕ × List ℤ

abbrev pub Fault : Type 0
Fault = ℕ × Change

abbrev pub in_pairs : List Fault → List (Fault × Fault)
in_pairs [] = []
in_pairs (fault ∷ faults) = map (λ (other : Fault). (fault, other)) faults ++ in_pairs faults

module _ (lengths : List ℕ) where
  abbrev pub lists : List Change → ℕ → List ℤ
  lists [] i = get_or lengths i 0 zeros∷ []
  lists (change ∷ changes) i = cond (eqb i change.0) change.1 (lists changes i)

  -- list k one number longer, one shorter, or with x as its last number
  abbrev pub longer : ℕ → Change
  longer k = (k, (get_or lengths k 0 + 1) zeros∷ [])

  abbrev pub shorter : ℕ → Change
  shorter k = (k, (get_or lengths k 0 - 1) zeros∷ [])

  abbrev pub ending : ℕ → ℤ → Change
  ending k x = (k, (get_or lengths k 0 - 1) zeros∷ x ∷ [])

  module _ (refusal : (ℕ → List ℤ) → ℕ) where
    abbrev pub with : List Change → ℕ
    with changes = refusal (lists changes)

    -- zeros are taken; each list has its length (7); the first `inputs` lists have a range (8), the others none
    abbrev pub Tested : (inputs : ℕ) → Type 0
    Tested inputs =
        (with [] ≡ 0)
        × (tab (length lengths) (λ k. with (longer k ∷ [])) ≡ replicate (length lengths) 7)
        × (tab (length lengths) (λ k. with (shorter k ∷ [])) ≡ replicate (length lengths) 7)
        × (tab (length lengths) (λ k. with (ending k (+ 2147483599) ∷ [])) ≡ replicate inputs 8 ++ replicate (length lengths - inputs) 0)

    -- each fault is refused by its row, and of two faults, the rows rising, by that of the first
    abbrev pub Ordered : List Fault → Type 0
    Ordered faults =
        (map (λ fault. with (fault.1 ∷ [])) faults ≡ map (λ fault. fault.0) faults)
        × (map (λ both. with (both.0.1 ∷ both.1.1 ∷ [])) (in_pairs faults) ≡ map (λ both. both.0.0) (in_pairs faults))

-- ---- the calls and the lengths of their lists

-- A, B, C, the witness; t digits, g digits, u1
abbrev pub lengths₁ : List ℕ
lengths₁ = 4 ∷ 16 ∷ 36 ∷ 8 ∷ 8 ∷ 18 ∷ 4 ∷ []

abbrev pub message₁ : (ℕ → List ℤ) → ℕ
message₁ x = first_failing (commit_tests 2 2 2 1 2 8 4 2 3 (x 0) (x 1) (x 2) (x 3) (x 4) (x 5) (x 6))

-- projection rows, the witness; p
abbrev pub lengths₂ : List ℕ
lengths₂ = 24 ∷ 8 ∷ 3 ∷ []

abbrev pub message₂ : (ℕ → List ℤ) → ℕ
message₂ x = first_failing (project_tests 2 2 2 3 (x 0) (x 1) (x 2))

-- constant-term constraints, projection rows, ψ, ω, the witness; b''
abbrev pub lengths₃ : List ℕ
lengths₃ = 30 ∷ 24 ∷ 10 ∷ 15 ∷ 8 ∷ 10 ∷ []

abbrev pub message₃ : (ℕ → List ℤ) → ℕ
message₃ x = first_failing (aggregate_tests 2 2 2 2 3 (x 0) (x 1) (x 2) (x 3) (x 4) (x 5))

-- both kinds of constraints, projection rows, ψ, ω, α, δ, D, the witness; h digits, u2
abbrev pub lengths₄ : List ℕ
lengths₄ = 48 ∷ 30 ∷ 24 ∷ 10 ∷ 15 ∷ 6 ∷ 10 ∷ 36 ∷ 8 ∷ 12 ∷ 6 ∷ []

abbrev pub message₄ : (ℕ → List ℤ) → ℕ
message₄ x =
    first_failing (garbage_tests 2 2 2 3 2 3 3 8 2 (x 0) (x 1) (x 2) (x 3) (x 4) (x 5) (x 6) (x 7) (x 8) (x 9) (x 10))

-- c, the witness; z digits
abbrev pub lengths₅ : List ℕ
lengths₅ = 4 ∷ 8 ∷ 8 ∷ []

abbrev pub message₅ : (ℕ → List ℤ) → ℕ
message₅ x = first_failing (amortize_tests 2 2 2 2 4 (x 0) (x 1) (x 2))

-- A, B, C, D, both kinds of constraints; projection rows, ψ, ω, α, δ, c; u1, p, b'', u2
abbrev pub given : List ℕ
given = 4 ∷ 16 ∷ 36 ∷ 36 ∷ 48 ∷ 30 ∷ 24 ∷ 10 ∷ 15 ∷ 6 ∷ 10 ∷ 4 ∷ []

abbrev pub messages : List ℕ
messages = 4 ∷ 3 ∷ 10 ∷ 6 ∷ []

abbrev pub statement : (ℕ → List ℤ) → Statement
statement x =
    record {
      relation = record { d = 2; n = 2; r = 2; K = 3; L = 2; bound = 5; whole = x 4; constant_terms = x 5 };
      w = 3;
      tz = 2;
      κ = 1;
      κ₁ = 2;
      κ₂ = 3;
      b = 4;
      b₁ = 8;
      b₂ = 4;
      t₁ = 2;
      t₂ = 3;
      target = 13;
      A = x 0;
      B = x 1;
      C = x 2;
      D = x 3;
    }

abbrev pub draws : (ℕ → List ℤ) → Draws
draws x = record { projections = x 6; ψ = x 7; ω = x 8; α = x 9; δ = x 10; c = x 11 }

abbrev pub transcript : (ℕ → List ℤ) → Transcript
transcript x = record { u₁ = x 12; p = x 13; b'' = x 14; u₂ = x 15 }

-- the tests before the five messages: these and the witness
abbrev pub material : (ℕ → List ℤ) → ℕ
material x = first_failing (prover_tests (statement x) (draws x) (x 12))

-- the verifier: these, the messages and the opening
abbrev pub verified : List ℕ
verified = given ++ messages ++ (46 ∷ [])

abbrev pub verifier : (ℕ → List ℤ) → ℕ
verifier x = first_failing (verify_tests (statement x) (draws x) (transcript x) (x 16))

-- the next instance: these, the messages and what is written, 9 constraints on 4 parts of rank 10
abbrev pub written : List ℕ
written = given ++ messages ++ (918 ∷ [])

abbrev pub next_instance : (ℕ → List ℤ) → ℕ
next_instance x = first_failing (next_tests (statement x) (draws x) (transcript x) 1 2 (x 16))

-- the question for part 4: the opening
abbrev pub part : (ℕ → List ℤ) → ℕ
part x = first_failing (part_tests 2 2 2 1 2 3 2 1 2 4 (x 0))

-- faults in the last list, in p, in the projection rows and in c
abbrev pub faults : List ℕ → List Fault
faults lengths =
    (7, longer lengths 16) ∷ (8, ending lengths 13 (+ 2147483599)) ∷ (9, ending lengths 6 (+ 2)) ∷ (10, ending lengths 11 (+ 3)) ∷ []

-- ---- the cases

pub record ListCases : Type 0 where
  pub lists₁ : Tested lengths₁ message₁ 4
  pub lists₂ : Tested lengths₂ message₂ 2
  pub lists₃ : Tested lengths₃ message₃ 5
  pub lists₄ : Tested lengths₄ message₄ 9
  pub lists₅ : Tested lengths₅ message₅ 2
  pub material-lists : Tested (given ++ (8 ∷ [])) material 13
  pub verifier-lists : Tested verified verifier 17
  pub next-lists : Tested written next_instance 16
  -- the opening is looked at only for its length
  pub part-lists : Tested (46 ∷ []) part 0
  -- "Lowest number first"
  pub order₁ : Ordered lengths₁ message₁ ((7, longer lengths₁ 6) ∷ (8, ending lengths₁ 3 (- 2147483599)) ∷ [])
  pub order₂ : Ordered lengths₂ message₂ ((7, longer lengths₂ 2) ∷ (8, ending lengths₂ 1 (+ 2147483599)) ∷ (9, ending lengths₂ 0 (+ 2)) ∷ [])
  pub order₃ : Ordered lengths₃ message₃ ((7, longer lengths₃ 5) ∷ (8, ending lengths₃ 0 (+ 2147483599)) ∷ (9, ending lengths₃ 1 (- 2)) ∷ [])
  pub order₄ : Ordered lengths₄ message₄ ((7, longer lengths₄ 9) ∷ (8, ending lengths₄ 8 (+ 2147483599)) ∷ (9, ending lengths₄ 2 (+ 2)) ∷ [])
  pub order₅ : Ordered lengths₅ message₅ ((7, longer lengths₅ 2) ∷ (8, ending lengths₅ 1 (+ 2147483599)) ∷ (10, ending lengths₅ 0 (+ 3)) ∷ [])
  pub verifier_order : Ordered verified verifier (faults verified)
  pub next_order : Ordered written next_instance (faults written)

pub list_cases : ListCases
unfolding fold_computes
list_cases =
    record {
      lists₁ = (refl, refl, refl, refl);
      lists₂ = (refl, refl, refl, refl);
      lists₃ = (refl, refl, refl, refl);
      lists₄ = (refl, refl, refl, refl);
      lists₅ = (refl, refl, refl, refl);
      material-lists = (refl, refl, refl, refl);
      verifier-lists = (refl, refl, refl, refl);
      next-lists = (refl, refl, refl, refl);
      part-lists = (refl, refl, refl, refl);
      order₁ = (refl, refl);
      order₂ = (refl, refl);
      order₃ = (refl, refl);
      order₄ = (refl, refl);
      order₅ = (refl, refl);
      verifier_order = (refl, refl);
      next_order = (refl, refl);
    }
