-- SPECIFICATION 7 and 12.2: the example of each row and the sides that the latter names, computed. What is lent is zero and
-- has the lengths that the sizes give, except where an example says otherwise. Row 12 is the sheet's. LimitCases has both sides of every
-- limit in every call, ListCases a fault in every list.
use Rattle.std.specs.Prelude.{false, ◌≡◌, refl, List, [], ◌∷◌, ◌++◌, ℕ, ◌*◌, replicate, ℤ}
use Rattle.integers.specs.Literals.{+◌, -◌, ◌zeros∷◌}
use Rattle.fold.specs.Answers.{first_failing}
use Rattle.fold.specs.Sizes.{t_size, garbage_size, rest_size, opening_size, next_rank, next_parts, next_count}
use Rattle.fold.specs.Statement.{Statement, Draws, Transcript}
use Rattle.fold.specs.Refusals.{length_bound, whole_length, project_tests, amortize_tests, verify_tests, next_tests, part_tests}
use Rattle.fold_values.specs.Cases.Computing.{fold_computes}

abbrev pub zeros : ℕ → List ℤ
zeros k = k zeros∷ []

-- sizes that vary; n, κ1 and κ2 are 1, K, L and w are 0
module _ (d r κ b t₁ t₂ bound : ℕ) where
  abbrev pub statement : Statement
  statement =
      record {
        relation = record { d = d; n = 1; r = r; K = 0; L = 0; bound = bound; whole = []; constant_terms = [] };
        w = 0;
        tz = 2;
        κ = κ;
        κ₁ = 1;
        κ₂ = 1;
        b = b;
        b₁ = 8;
        b₂ = 4;
        t₁ = t₁;
        t₂ = t₂;
        target = 13;
        A = zeros (κ * d);
        B = zeros (t_size r κ t₁ * d);
        C = zeros (garbage_size r t₂ * d);
        D = zeros (garbage_size r t₁ * d);
      }

  -- with the challenges c
  abbrev pub draws_with : List ℤ → Draws
  draws_with c = record { projections = []; ψ = []; ω = []; α = []; δ = zeros (5 * d); c = c }

  abbrev pub draws : Draws
  draws = draws_with (zeros (r * d))

  abbrev pub transcript : Transcript
  transcript = record { u₁ = zeros d; p = []; b'' = zeros (5 * d); u₂ = zeros d }

  -- the refusals of the verifier and of the next instance, 0 for none
  abbrev pub verifier_refusal_with : List ℤ → ℕ
  verifier_refusal_with c = first_failing (verify_tests statement (draws_with c) transcript (zeros (opening_size 2 1 r κ t₁ t₂ * d)))

  abbrev pub verifier_refusal : ℕ
  verifier_refusal = verifier_refusal_with (zeros (r * d))

  abbrev pub next_refusal_with : List ℤ → (ν μ : ℕ) → ℕ
  next_refusal_with c ν μ = first_failing (next_tests statement (draws_with c) transcript ν μ (zeros (whole_length d n' (next_parts 2 ν μ) (next_count κ 1 1))))
    where
      n' : ℕ
      n' = next_rank 1 ν (rest_size r κ t₁ t₂) μ

  abbrev pub next_refusal : (ν μ : ℕ) → ℕ
  next_refusal = next_refusal_with (zeros (r * d))

-- the refusal of message 5 for one part of rank 1: the challenge c, the witness s
abbrev pub message₅_refusal : ℕ → List ℤ → List ℤ → ℕ
message₅_refusal d c s = first_failing (amortize_tests d 1 1 2 4 c s (zeros (2 * d)))

-- the refusals of the three calls that take one challenge c: message 5, the verifier, the next instance
abbrev pub challenge_refusals : ℕ → List ℤ → List ℕ
challenge_refusals d c = message₅_refusal d c (zeros d) ∷ verifier_refusal_with d 1 1 4 2 2 5 c ∷ next_refusal_with d 1 1 4 2 2 5 c 1 1 ∷ []

-- the refusal of the verifier for one part of rank 1 and degree 2: the base of z, the challenge, z low and z high
abbrev pub opening_refusal : ℕ → (c low high : List ℤ) → List ℕ
opening_refusal b c low high =
    first_failing (verify_tests (statement 2 1 1 b 2 2 5) (draws_with 2 1 1 b 2 2 5 c) (transcript 2 1 1 b 2 2 5) (low ++ high ++ zeros (rest_size 1 1 2 2 * 2))) ∷ []

-- so many numbers 0, +1 and -2
abbrev pub of_counts : (none ones twos : ℕ) → List ℤ
of_counts none ones twos = replicate ones (+ 1) ++ replicate twos (- 2) ++ zeros none

-- the refusal of message 2 for one part of rank 1 and degree 2 and one projection row
abbrev pub message₂_refusal : List ℤ → ℕ
message₂_refusal row = first_failing (project_tests 2 1 1 1 row (zeros 2) (zeros 1))

-- the refusal of the question for part i of the next witness, ν = μ = 1
abbrev pub part_refusal : ℕ → ℕ
part_refusal i = first_failing (part_tests 2 1 1 1 2 2 2 1 1 i (zeros (opening_size 2 1 1 1 2 2 * 2)))

pub record RefusalCases : Type 0 where
  pub none : verifier_refusal 2 1 1 4 2 2 5 ≡ 0
  pub none-next : next_refusal 2 1 1 4 2 2 5 1 1 ≡ 0
  -- row 1: "d = 3"; "Lowest number first"
  pub degree_3 : verifier_refusal 3 1 1 4 2 2 5 ≡ 1
  pub lowest-first : verifier_refusal 3 17 0 1 2 2 1000000000000000 ≡ 1
  -- row 2: "r = 17", "r 16/17", a part "outside 1..r'", where r' is 3
  pub parts_16 : verifier_refusal 2 16 1 4 2 2 5 ≡ 0
  pub parts_17 : verifier_refusal 2 17 1 4 2 2 5 ≡ 2
  pub part_0 : part_refusal 0 ≡ 2
  pub part_3 : part_refusal 3 ≡ 0
  pub part_4 : part_refusal 4 ≡ 2
  -- row 3: "κ = 0"; row 4: "b = 1"
  pub commitment_rank_0 : verifier_refusal 2 1 0 4 2 2 5 ≡ 3
  pub base_1 : verifier_refusal 2 1 1 1 2 2 5 ≡ 4
  pub base_65536 : verifier_refusal 2 1 1 65536 2 2 5 ≡ 0
  pub base_65537 : verifier_refusal 2 1 1 65537 2 2 5 ≡ 4
  -- row 5: "ν = 8, μ = 1"
  pub chunks_8_1 : next_refusal 2 1 1 4 2 2 5 8 1 ≡ 5
  pub chunks_7_2 : next_refusal 2 1 1 4 2 2 5 7 2 ≡ 0
  -- row 6: "-1", "β² 999999999999999 and one more"
  pub bound-negative : length_bound (- 1) ≡ false
  pub bound-largest : verifier_refusal 2 1 1 4 2 2 999999999999999 ≡ 0
  pub bound-above : verifier_refusal 2 1 1 4 2 2 1000000000000000 ≡ 6
  -- row 7: "d = 2, n = r = 1, witness of 3 numbers"; row 8: "2147483599"; row 9: "2"
  pub three-numbers : message₅_refusal 2 (zeros 2) (zeros 3) ≡ 7
  pub coefficient-largest : message₅_refusal 2 (zeros 2) (+ 2147483598 ∷ - 2147483598 ∷ []) ≡ 0
  pub coefficient-above : message₅_refusal 2 (zeros 2) (+ 2147483599 ∷ + 0 ∷ []) ≡ 8
  pub coefficient-below : message₅_refusal 2 (zeros 2) (+ 0 ∷ - 2147483599 ∷ []) ≡ 8
  pub projection_1 : message₂_refusal (+ 1 ∷ - 1 ∷ []) ≡ 0
  pub projection_2 : message₂_refusal (+ 2 ∷ + 0 ∷ []) ≡ 9
  -- row 10: "coefficient 3; at degree 64, c = 0", "squared length of c 71/72 at degree 32"
  pub challenge_3 : challenge_refusals 2 (+ 3 ∷ + 0 ∷ []) ≡ 10 ∷ 10 ∷ 10 ∷ []
  pub challenge_71 : challenge_refusals 32 (of_counts 12 3 17) ≡ 0 ∷ 0 ∷ 0 ∷ []
  pub challenge_72 : challenge_refusals 32 (of_counts 14 0 18) ≡ 10 ∷ 10 ∷ 10 ∷ []
  pub zero_32 : challenge_refusals 32 (zeros 32) ≡ 0 ∷ 0 ∷ 0 ∷ []
  pub zero_64 : challenge_refusals 64 (zeros 64) ≡ 10 ∷ 10 ∷ 10 ∷ []
  -- "At degree 64, 23 zeros, 31 of ±1 and 10 of ±2 are taken; with one count one more and another one less c is refused, and so is a c of squared
  -- length 71 with other counts: 20, 35 and 9; 26, 27 and 11; 32, 19 and 13."
  pub counts_64 : challenge_refusals 64 (of_counts 23 31 10) ≡ 0 ∷ 0 ∷ 0 ∷ []
  pub other_signs : challenge_refusals 64 (zeros 23 ++ replicate 10 (+ 2) ++ replicate 31 (- 1)) ≡ 0 ∷ 0 ∷ 0 ∷ []
  pub zeros_24 : challenge_refusals 64 (of_counts 24 30 10) ++ challenge_refusals 64 (of_counts 24 31 9) ≡ replicate 6 10
  pub ones_32 : challenge_refusals 64 (of_counts 22 32 10) ++ challenge_refusals 64 (of_counts 23 32 9) ≡ replicate 6 10
  pub twos_11 : challenge_refusals 64 (of_counts 22 31 11) ++ challenge_refusals 64 (of_counts 23 30 11) ≡ replicate 6 10
  pub other_71 :
      challenge_refusals 64 (of_counts 20 35 9) ++ challenge_refusals 64 (of_counts 26 27 11) ++ challenge_refusals 64 (of_counts 32 19 13) ≡ replicate 9 10
  -- row 15: "3 to base 4; 2 to base 3"; "A low digit of 2 or -2 to base 4, 1 or -1 to base 3 is taken, one more in absolute value refused; a top digit
  -- of 2147483598 is taken." After row 10
  pub low_half : opening_refusal 4 (zeros 2) (+ 2 ∷ - 2 ∷ []) (zeros 2) ++ opening_refusal 3 (zeros 2) (+ 1 ∷ - 1 ∷ []) (zeros 2) ≡ 0 ∷ 0 ∷ []
  pub low-above : opening_refusal 4 (zeros 2) (+ 3 ∷ + 0 ∷ []) (zeros 2) ++ opening_refusal 3 (zeros 2) (+ 2 ∷ + 0 ∷ []) (zeros 2) ≡ 15 ∷ 15 ∷ []
  pub low_below : opening_refusal 4 (zeros 2) (+ 0 ∷ - 3 ∷ []) (zeros 2) ++ opening_refusal 3 (zeros 2) (+ 0 ∷ - 2 ∷ []) (zeros 2) ≡ 15 ∷ 15 ∷ []
  pub top-largest : opening_refusal 4 (zeros 2) (zeros 2) (+ 2147483598 ∷ - 2147483598 ∷ []) ≡ 0 ∷ []
  pub ten_before_fifteen : opening_refusal 4 (+ 3 ∷ + 0 ∷ []) (+ 3 ∷ + 0 ∷ []) (zeros 2) ≡ 10 ∷ []
  pub eight_before_fifteen : opening_refusal 4 (zeros 2) (+ 3 ∷ + 0 ∷ []) (+ 2147483599 ∷ + 0 ∷ []) ≡ 8 ∷ []
  -- row 11: "m = 3200, μ = 1", "n' 256/257"
  pub rest_3200 : rest_size 16 8 8 8 ≡ 3200
  pub rank_3200 : next_refusal 2 16 8 4 8 8 5 1 1 ≡ 11
  pub length-before-rank : first_failing (next_tests (statement 2 16 8 4 8 8 5) (draws 2 16 8 4 8 8 5) (transcript 2 16 8 4 8 8 5) 1 1 []) ≡ 7
  pub next-rank_256 : next_rank 1 1 (rest_size 8 7 4 4) 2 ≡ 256
  pub next-rank_257 : next_rank 1 1 (rest_size 9 6 2 7) 2 ≡ 257
  pub rank_256 : next_refusal 2 8 7 4 4 4 5 1 2 ≡ 0
  pub rank_257 : next_refusal 2 9 6 4 2 7 5 1 2 ≡ 11

pub refusal_cases : RefusalCases
unfolding fold_computes
refusal_cases =
    record {
      none = refl;
      none-next = refl;
      degree_3 = refl;
      lowest-first = refl;
      parts_16 = refl;
      parts_17 = refl;
      part_0 = refl;
      part_3 = refl;
      part_4 = refl;
      commitment_rank_0 = refl;
      base_1 = refl;
      base_65536 = refl;
      base_65537 = refl;
      chunks_8_1 = refl;
      chunks_7_2 = refl;
      bound-negative = refl;
      bound-largest = refl;
      bound-above = refl;
      three-numbers = refl;
      coefficient-largest = refl;
      coefficient-above = refl;
      coefficient-below = refl;
      projection_1 = refl;
      projection_2 = refl;
      challenge_3 = refl;
      challenge_71 = refl;
      challenge_72 = refl;
      zero_32 = refl;
      zero_64 = refl;
      counts_64 = refl;
      other_signs = refl;
      zeros_24 = refl;
      ones_32 = refl;
      twos_11 = refl;
      other_71 = refl;
      low_half = refl;
      low-above = refl;
      low_below = refl;
      top-largest = refl;
      ten_before_fifteen = refl;
      eight_before_fifteen = refl;
      rest_3200 = refl;
      rank_3200 = refl;
      length-before-rank = refl;
      next-rank_256 = refl;
      next-rank_257 = refl;
      rank_256 = refl;
      rank_257 = refl;
    }
