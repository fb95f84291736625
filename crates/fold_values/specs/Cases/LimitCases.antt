-- SPECIFICATION 7.1 to 7.6: both sides of every limit, in each call that takes the size, computed. Every list is empty,
-- so a call whose sizes are taken is refused by 7. Sizes stand in the order of a sheet's header.
use Rattle.std.specs.Prelude.{◌≡◌, refl, false, cond, List, [], ◌∷◌, map, ℕ, ◌+◌, ◌-◌, leb, replicate}
use Rattle.integers.specs.Literals.{+◌, -◌}
use Rattle.fold.specs.Answers.{first_failing}
use Rattle.fold.specs.Statement.{Statement, Draws, Transcript}
use Rattle.fold.specs.Refusals.{degree, rank, parts, constraint_count, projection_count, commitment_rank, base, digit_count, chunks, length_bound}
use Rattle.fold.specs.Refusals.{commit_tests, project_tests, aggregate_tests, garbage_tests, amortize_tests, verify_tests, next_tests, part_tests}
use Rattle.fold_values.specs.Cases.Computing.{fold_computes}

-- ---- what is said of a size

-- a row, the least and the greatest size that it takes, and a call's refusal where its other sizes are taken
abbrev pub Limit : Type 0
Limit = ℕ × ℕ × ℕ × (ℕ → ℕ)

-- the sizes at both ends and those next to them; 0 stands twice where it is the least
abbrev pub sides : Limit → List ℕ
sides limit = (limit.1 - 1) ∷ limit.1 ∷ limit.2 ∷ (limit.2 + 1) ∷ []

abbrev pub expected : Limit → ℕ → ℕ
expected limit x = cond (leb limit.1 x) (cond (leb x limit.2) 7 limit.0) limit.0

-- at its sides each size is refused by its row where it is outside, and only there
abbrev pub Kept : List Limit → Type 0
Kept limits = map (λ limit. map limit.3 (sides limit)) limits ≡ map (λ limit. map (expected limit) (sides limit)) limits

-- row 1: "Degree d is 2, 4, 8, 16, 32 or 64"
abbrev pub Listed : (ℕ → ℕ) → Type 0
Listed refusal =
    map refusal (0 ∷ 1 ∷ 2 ∷ 3 ∷ 4 ∷ 8 ∷ 16 ∷ 32 ∷ 63 ∷ 64 ∷ 65 ∷ 128 ∷ [])
    ≡ 1 ∷ 1 ∷ 7 ∷ 1 ∷ 7 ∷ 7 ∷ 7 ∷ 7 ∷ 1 ∷ 7 ∷ 1 ∷ 1 ∷ []

-- ---- the calls on empty lists

abbrev pub commit : (d n r κ κ₁ b₁ b₂ t₁ t₂ : ℕ) → ℕ
commit d n r κ κ₁ b₁ b₂ t₁ t₂ = first_failing (commit_tests d n r κ κ₁ b₁ b₂ t₁ t₂ [] [] [] [] [] [] [])

abbrev pub project : (d n r w : ℕ) → ℕ
project d n r w = first_failing (project_tests d n r w [] [] [])

abbrev pub aggregate : (d n r L w : ℕ) → ℕ
aggregate d n r L w = first_failing (aggregate_tests d n r L w [] [] [] [] [] [])

abbrev pub garbage : (d n r K L w κ₂ b₁ t₁ : ℕ) → ℕ
garbage d n r K L w κ₂ b₁ t₁ = first_failing (garbage_tests d n r K L w κ₂ b₁ t₁ [] [] [] [] [] [] [] [] [] [] [])

abbrev pub amortize : (d n r b : ℕ) → ℕ
amortize d n r b = first_failing (amortize_tests d n r 2 b [] [] [])

abbrev pub draws : Draws
draws = record { projections = []; ψ = []; ω = []; α = []; δ = []; c = [] }

abbrev pub transcript : Transcript
transcript = record { u₁ = []; p = []; b'' = []; u₂ = [] }

module _ (d n r K L w κ κ₁ κ₂ b b₁ b₂ t₁ t₂ : ℕ) where
  abbrev pub statement : (bound target : ℕ) → Statement
  statement bound target =
      record {
        relation = record { d = d; n = n; r = r; K = K; L = L; bound = bound; whole = []; constant_terms = [] };
        w = w;
        tz = 2;
        κ = κ;
        κ₁ = κ₁;
        κ₂ = κ₂;
        b = b;
        b₁ = b₁;
        b₂ = b₂;
        t₁ = t₁;
        t₂ = t₂;
        target = target;
        A = [];
        B = [];
        C = [];
        D = [];
      }

  abbrev pub verify : (bound target : ℕ) → ℕ
  verify bound target = first_failing (verify_tests (statement bound target) draws transcript [])

  abbrev pub next : (ν μ bound target : ℕ) → ℕ
  next ν μ bound target = first_failing (next_tests (statement bound target) draws transcript ν μ [])

-- part i
abbrev pub part : (d n r κ t₁ t₂ ν μ i : ℕ) → ℕ
part d n r κ t₁ t₂ ν μ i = first_failing (part_tests d n r κ t₁ t₂ 2 ν μ i [])

-- ---- the cases

pub record LimitCases : Type 0 where
  pub commit_degrees : Listed (λ d. commit d 1 1 1 1 2 2 2 2)
  pub commit-limits
      : Kept (
      (2, 1, 256, λ n. commit 2 n 1 1 1 2 2 2 2)
      ∷ (2, 1, 16, λ r. commit 2 1 r 1 1 2 2 2 2)
      ∷ (3, 1, 8, λ κ. commit 2 1 1 κ 1 2 2 2 2)
      ∷ (3, 1, 8, λ κ₁. commit 2 1 1 1 κ₁ 2 2 2 2)
      ∷ (4, 2, 65536, λ b₁. commit 2 1 1 1 1 b₁ 2 2 2)
      ∷ (4, 2, 65536, λ b₂. commit 2 1 1 1 1 2 b₂ 2 2)
      ∷ (4, 2, 8, λ t₁. commit 2 1 1 1 1 2 2 t₁ 2)
      ∷ (4, 2, 8, λ t₂. commit 2 1 1 1 1 2 2 2 t₂)
      ∷ [])
  pub project_degrees : Listed (λ d. project d 1 1 0)
  pub project-limits
      : Kept (
      (2, 1, 256, λ n. project 2 n 1 0)
      ∷ (2, 1, 16, λ r. project 2 1 r 0)
      ∷ (2, 0, 256, λ w. project 2 1 1 w)
      ∷ [])
  pub aggregate_degrees : Listed (λ d. aggregate d 1 1 0 0)
  pub aggregate-limits
      : Kept (
      (2, 1, 256, λ n. aggregate 2 n 1 0 0)
      ∷ (2, 1, 16, λ r. aggregate 2 1 r 0 0)
      ∷ (2, 0, 32, λ L. aggregate 2 1 1 L 0)
      ∷ (2, 0, 256, λ w. aggregate 2 1 1 0 w)
      ∷ [])
  pub garbage_degrees : Listed (λ d. garbage d 1 1 0 0 0 1 2 2)
  pub garbage-limits
      : Kept (
      (2, 1, 256, λ n. garbage 2 n 1 0 0 0 1 2 2)
      ∷ (2, 1, 16, λ r. garbage 2 1 r 0 0 0 1 2 2)
      ∷ (2, 0, 32, λ K. garbage 2 1 1 K 0 0 1 2 2)
      ∷ (2, 0, 32, λ L. garbage 2 1 1 0 L 0 1 2 2)
      ∷ (2, 0, 256, λ w. garbage 2 1 1 0 0 w 1 2 2)
      ∷ (3, 1, 8, λ κ₂. garbage 2 1 1 0 0 0 κ₂ 2 2)
      ∷ (4, 2, 65536, λ b₁. garbage 2 1 1 0 0 0 1 b₁ 2)
      ∷ (4, 2, 8, λ t₁. garbage 2 1 1 0 0 0 1 2 t₁)
      ∷ [])
  pub amortize_degrees : Listed (λ d. amortize d 1 1 2)
  pub amortize-limits
      : Kept (
      (2, 1, 256, λ n. amortize 2 n 1 2)
      ∷ (2, 1, 16, λ r. amortize 2 1 r 2)
      ∷ (4, 2, 65536, λ b. amortize 2 1 1 b)
      ∷ [])
  pub verify_degrees : Listed (λ d. verify d 1 1 0 0 0 1 1 1 2 2 2 2 2 0 0)
  pub verify-limits
      : Kept (
      (2, 1, 256, λ n. verify 2 n 1 0 0 0 1 1 1 2 2 2 2 2 0 0)
      ∷ (2, 1, 16, λ r. verify 2 1 r 0 0 0 1 1 1 2 2 2 2 2 0 0)
      ∷ (2, 0, 32, λ K. verify 2 1 1 K 0 0 1 1 1 2 2 2 2 2 0 0)
      ∷ (2, 0, 32, λ L. verify 2 1 1 0 L 0 1 1 1 2 2 2 2 2 0 0)
      ∷ (2, 0, 256, λ w. verify 2 1 1 0 0 w 1 1 1 2 2 2 2 2 0 0)
      ∷ (3, 1, 8, λ κ. verify 2 1 1 0 0 0 κ 1 1 2 2 2 2 2 0 0)
      ∷ (3, 1, 8, λ κ₁. verify 2 1 1 0 0 0 1 κ₁ 1 2 2 2 2 2 0 0)
      ∷ (3, 1, 8, λ κ₂. verify 2 1 1 0 0 0 1 1 κ₂ 2 2 2 2 2 0 0)
      ∷ (4, 2, 65536, λ b. verify 2 1 1 0 0 0 1 1 1 b 2 2 2 2 0 0)
      ∷ (4, 2, 65536, λ b₁. verify 2 1 1 0 0 0 1 1 1 2 b₁ 2 2 2 0 0)
      ∷ (4, 2, 65536, λ b₂. verify 2 1 1 0 0 0 1 1 1 2 2 b₂ 2 2 0 0)
      ∷ (4, 2, 8, λ t₁. verify 2 1 1 0 0 0 1 1 1 2 2 2 t₁ 2 0 0)
      ∷ (4, 2, 8, λ t₂. verify 2 1 1 0 0 0 1 1 1 2 2 2 2 t₂ 0 0)
      ∷ (6, 0, 999999999999999, λ bound. verify 2 1 1 0 0 0 1 1 1 2 2 2 2 2 bound 0)
      ∷ (6, 0, 999999999999999, λ target. verify 2 1 1 0 0 0 1 1 1 2 2 2 2 2 0 target)
      ∷ [])
  pub next_degrees : Listed (λ d. next d 1 1 0 0 0 1 1 1 2 2 2 2 2 1 1 0 0)
  pub next-limits
      : Kept (
      (2, 1, 256, λ n. next 2 n 1 0 0 0 1 1 1 2 2 2 2 2 1 1 0 0)
      ∷ (2, 1, 16, λ r. next 2 1 r 0 0 0 1 1 1 2 2 2 2 2 1 1 0 0)
      ∷ (2, 0, 32, λ K. next 2 1 1 K 0 0 1 1 1 2 2 2 2 2 1 1 0 0)
      ∷ (2, 0, 32, λ L. next 2 1 1 0 L 0 1 1 1 2 2 2 2 2 1 1 0 0)
      ∷ (2, 0, 256, λ w. next 2 1 1 0 0 w 1 1 1 2 2 2 2 2 1 1 0 0)
      ∷ (3, 1, 8, λ κ. next 2 1 1 0 0 0 κ 1 1 2 2 2 2 2 1 1 0 0)
      ∷ (3, 1, 8, λ κ₁. next 2 1 1 0 0 0 1 κ₁ 1 2 2 2 2 2 1 1 0 0)
      ∷ (3, 1, 8, λ κ₂. next 2 1 1 0 0 0 1 1 κ₂ 2 2 2 2 2 1 1 0 0)
      ∷ (4, 2, 65536, λ b. next 2 1 1 0 0 0 1 1 1 b 2 2 2 2 1 1 0 0)
      ∷ (4, 2, 65536, λ b₁. next 2 1 1 0 0 0 1 1 1 2 b₁ 2 2 2 1 1 0 0)
      ∷ (4, 2, 65536, λ b₂. next 2 1 1 0 0 0 1 1 1 2 2 b₂ 2 2 1 1 0 0)
      ∷ (4, 2, 8, λ t₁. next 2 1 1 0 0 0 1 1 1 2 2 2 t₁ 2 1 1 0 0)
      ∷ (4, 2, 8, λ t₂. next 2 1 1 0 0 0 1 1 1 2 2 2 2 t₂ 1 1 0 0)
      ∷ (5, 1, 7, λ ν. next 2 1 1 0 0 0 1 1 1 2 2 2 2 2 ν 1 0 0)
      ∷ (5, 1, 14, λ μ. next 2 1 1 0 0 0 1 1 1 2 2 2 2 2 1 μ 0 0)
      ∷ (5, 1, 2, λ μ. next 2 1 1 0 0 0 1 1 1 2 2 2 2 2 7 μ 0 0)
      ∷ (6, 0, 999999999999999, λ bound. next 2 1 1 0 0 0 1 1 1 2 2 2 2 2 1 1 bound 0)
      ∷ (6, 0, 999999999999999, λ target. next 2 1 1 0 0 0 1 1 1 2 2 2 2 2 1 1 0 target)
      ∷ [])
  pub part_degrees : Listed (λ d. part d 1 1 1 2 2 1 1 1)
  pub part-limits
      : Kept (
      (2, 1, 256, λ n. part 2 n 1 1 2 2 1 1 1)
      ∷ (2, 1, 16, λ r. part 2 1 r 1 2 2 1 1 1)
      ∷ (2, 1, 3, λ i. part 2 1 1 1 2 2 1 1 i)
      ∷ (2, 1, 16, λ i. part 2 1 1 1 2 2 7 2 i)
      ∷ (3, 1, 8, λ κ. part 2 1 1 κ 2 2 1 1 1)
      ∷ (4, 2, 8, λ t₁. part 2 1 1 1 t₁ 2 1 1 1)
      ∷ (4, 2, 8, λ t₂. part 2 1 1 1 2 t₂ 1 1 1)
      ∷ (5, 1, 7, λ ν. part 2 1 1 1 2 2 ν 1 1)
      ∷ (5, 1, 14, λ μ. part 2 1 1 1 2 2 1 μ 1)
      ∷ (5, 1, 2, λ μ. part 2 1 1 1 2 2 7 μ 1)
      ∷ [])
  -- row 2 compares a part's number with 2ν+μ as these are given, also where row 5 refuses them
  pub part-beyond : part 2 1 1 1 2 2 8 1 17 ∷ part 2 1 1 1 2 2 8 1 18 ∷ [] ≡ 5 ∷ 2 ∷ []
  -- a sheet may hold negative sizes
  pub negative
      : map (λ test. test (- 1))
      (degree ∷ rank ∷ parts ∷ constraint_count ∷ projection_count ∷ commitment_rank ∷ base ∷ digit_count ∷ length_bound ∷ [])
      ≡ replicate 9 false
  pub negative-chunks : chunks 2 (- 1) (+ 1) ∷ chunks 2 (+ 1) (- 1) ∷ chunks 2 (- 1) (- 1) ∷ [] ≡ replicate 3 false

pub limit_cases : LimitCases
unfolding fold_computes
limit_cases =
    record {
      commit_degrees = refl;
      commit-limits = refl;
      project_degrees = refl;
      project-limits = refl;
      aggregate_degrees = refl;
      aggregate-limits = refl;
      garbage_degrees = refl;
      garbage-limits = refl;
      amortize_degrees = refl;
      amortize-limits = refl;
      verify_degrees = refl;
      verify-limits = refl;
      next_degrees = refl;
      next-limits = refl;
      part_degrees = refl;
      part-limits = refl;
      part-beyond = refl;
      negative = refl;
      negative-chunks = refl;
    }
