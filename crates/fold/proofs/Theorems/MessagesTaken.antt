-- SPECIFICATION 7.a: "a call tests only what it takes." The tests of a message are among those of the statement, the draws
-- and the witness, and of the lengths of what it writes: where none of these fails, no message refuses. Messages 1, 4 and 5 together test
-- all of them but row 6. The question for a part tests some of the sizes, its number and the opening's length.
--     commit-taken, project-taken, aggregate-taken, garbage-taken, amortize-taken     message 1 .. message 5
--     messages-test-all
--     part-taken, next-taken     the question for a part, the next instance
use Rattle.std.specs.Prelude.{◌≡◌, true, List, [], ◌∷◌, ◌++◌, ℕ, ◌*◌, ◌≤◌, length, ℤ, pos}
use Rattle.std.proofs.Math.Path.{refl}
use borrow.Author.Tests.{le-leb}
use Rattle.residues.specs.Range.{coefficients}
use Rattle.fold.specs.Answers.{first_failing}
use Rattle.fold.specs.Sizes.{five, t_size, garbage_size, opening_size, next_parts, next_count}
use Rattle.fold.specs.Statement.{Statement, Draws, Transcript}
use Rattle.fold.specs.Refusals.{degree, commitment_rank, base, chunks, shape, counts, ranks, digits}
use Rattle.fold.specs.Refusals.{sized, whole_length, size_tests, bound_tests, draw_tests, constraint_lengths, garbage_lengths, given_lengths, given_ranges}
use Rattle.fold.specs.Refusals.{commit_tests, project_tests, aggregate_tests, garbage_tests, amortize_tests}
use Rattle.fold.specs.Refusals.{prover_tests, verify_tests, next_tests, part_tests}
use Rattle.fold.specs.Laws.RefusalLaws.{Passes, ◌&◌, passes_refusal, All, all_of_all, all_all_of, all_join, length-sized, between-tested}
use Rattle.fold.specs.Laws.TestLaws.{Rows, holds}
use Rattle.fold.specs.NextInstance.{n', r'}

-- ---- the messages

module _ (𝓢 : Statement) (𝓓 : Draws) (s : List ℤ) (taken : first_failing (prover_tests 𝓢 𝓓 s) ≡ 0) where
  open 𝓢 use {relation, w, tz, κ, κ₁, κ₂, b, b₁, b₂, t₁, t₂, target, A, B, C, D}
  open relation use {d, n, r, K, L, bound, whole, constant_terms}
  open 𝓓 use {projections, ψ, ω, α, δ, c}

  row : Rows (prover_tests 𝓢 𝓓 s)
  unfolding prover_tests
  row = holds (prover_tests 𝓢 𝓓 s) refl taken

  row₁ : degree (pos d) ≡ true
  unfolding prover_tests
  row₁ = row 1

  row₂ : All (shape (pos n) (pos r) ++ counts (pos K) (pos L) (pos w))
  unfolding prover_tests
  row₂ = all_of_all _ (row 2)

  row₃ : All (ranks (pos κ) (pos κ₁) ++ (commitment_rank (pos κ₂) ∷ []))
  unfolding prover_tests
  row₃ = all_of_all _ (row 3)

  row₄ : All (base (pos b) ∷ digits (pos b₁) (pos b₂) (pos t₁) (pos t₂))
  unfolding prover_tests
  row₄ = all_of_all _ (row 4)

  row₇ : All (sized s (r * n * d) ∷ given_lengths 𝓢 𝓓)
  unfolding prover_tests
  row₇ = all_of_all _ (row 7)

  row₈ : All (coefficients s ∷ given_ranges 𝓢 𝓓)
  unfolding prover_tests
  row₈ = all_of_all _ (row 8)

  draws : Passes (draw_tests 𝓢 𝓓)
  unfolding prover_tests
  draws = (row 9, (row 10, tt))

  -- message 1
  pub commit-taken : (ts gs u₁ : List ℤ) → length ts ≡ t_size r κ t₁ * d → length gs ≡ garbage_size r t₂ * d → length u₁ ≡ κ₁ * d
      → first_failing (commit_tests d n r κ κ₁ b₁ b₂ t₁ t₂ A B C s ts gs u₁) ≡ 0
  unfolding commit_tests
  commit-taken ts gs u₁ t-size g-size u₁-size =
      passes_refusal (commit_tests d n r κ κ₁ b₁ b₂ t₁ t₂ A B C s ts gs u₁)
      (row₁
      & all_all_of _ (search row₂)
      & all_all_of _ (search row₃)
      & all_all_of _ (search row₄)
      & all_all_of _ (search (length-sized, row₇) depth 20)
      & all_all_of _ (search row₈)
      & tt)

  -- message 2
  pub project-taken : (p : List ℤ) → length p ≡ w → first_failing (project_tests d n r w projections s p) ≡ 0
  unfolding project_tests
  project-taken p p-size =
      passes_refusal (project_tests d n r w projections s p)
      (row₁
      & all_all_of _ (search row₂)
      & all_all_of _ (search (length-sized, row₇) depth 20)
      & all_all_of _ (search row₈)
      & search draws)

  -- message 3
  pub aggregate-taken : (b'' : List ℤ) → length b'' ≡ five * d → first_failing (aggregate_tests d n r L w constant_terms projections ψ ω s b'') ≡ 0
  unfolding aggregate_tests
  aggregate-taken b'' b''-size =
      passes_refusal (aggregate_tests d n r L w constant_terms projections ψ ω s b'')
      (row₁
      & all_all_of _ (search row₂)
      & all_all_of _ (search (length-sized, row₇) depth 20)
      & all_all_of _ (search row₈ depth 20)
      & search draws)

  -- message 4
  pub garbage-taken : (hs u₂ : List ℤ) → length hs ≡ garbage_size r t₁ * d → length u₂ ≡ κ₂ * d
      → first_failing (garbage_tests d n r K L w κ₂ b₁ t₁ whole constant_terms projections ψ ω α δ D s hs u₂) ≡ 0
  unfolding garbage_tests
  garbage-taken hs u₂ h-size u₂-size =
      passes_refusal (garbage_tests d n r K L w κ₂ b₁ t₁ whole constant_terms projections ψ ω α δ D s hs u₂)
      (row₁
      & all_all_of _ row₂
      & search row₃
      & all_all_of _ (search row₄)
      & all_all_of _
      (all_join (constraint_lengths d n r K L w whole constant_terms projections ψ ω α δ) (garbage_lengths d n r κ₂ t₁ D s hs u₂)
      (search row₇ depth 20) (search (length-sized, row₇)))
      & all_all_of _ (search row₈ depth 20)
      & search draws)

  -- message 5
  pub amortize-taken : (zs : List ℤ) → length zs ≡ tz * n * d → first_failing (amortize_tests d n r tz b c s zs) ≡ 0
  unfolding amortize_tests
  amortize-taken zs z-size =
      passes_refusal (amortize_tests d n r tz b c s zs)
      (row₁
      & all_all_of _ (search row₂)
      & search row₄
      & all_all_of _ (search (length-sized, row₇) depth 20)
      & all_all_of _ (search row₈)
      & search draws)

-- whatever they write to, where messages 1, 4 and 5 refuse nothing and row 6 holds, the statement, the draws and the witness are taken
module _ (𝓢 : Statement) (𝓓 : Draws) (s : List ℤ) where
  open 𝓢 use {relation, w, tz, κ, κ₁, κ₂, b, b₁, b₂, t₁, t₂, A, B, C, D}
  open relation use {d, n, r, K, L, whole, constant_terms}
  open 𝓓 use {projections, ψ, ω, α, δ, c}

  -- ts, gs, u₁, hs, u₂ and zs are what messages 1, 4 and 5 were lent to write to
  pub messages-test-all : (ts gs u₁ hs u₂ zs : List ℤ)
      → first_failing (commit_tests d n r κ κ₁ b₁ b₂ t₁ t₂ A B C s ts gs u₁) ≡ 0
      → first_failing (garbage_tests d n r K L w κ₂ b₁ t₁ whole constant_terms projections ψ ω α δ D s hs u₂) ≡ 0
      → first_failing (amortize_tests d n r tz b c s zs) ≡ 0
      → first_failing (bound_tests 𝓢 𝓓) ≡ 0
      → first_failing (prover_tests 𝓢 𝓓 s) ≡ 0
  unfolding commit_tests garbage_tests amortize_tests prover_tests
  messages-test-all ts gs u₁ hs u₂ zs one four five bounds =
      let commit = holds (commit_tests d n r κ κ₁ b₁ b₂ t₁ t₂ A B C s ts gs u₁) refl one in
      let garbage = holds (garbage_tests d n r K L w κ₂ b₁ t₁ whole constant_terms projections ψ ω α δ D s hs u₂) refl four in
      let amortize = holds (amortize_tests d n r tz b c s zs) refl five in
      let bound = holds (bound_tests 𝓢 𝓓) refl bounds in
      passes_refusal (prover_tests 𝓢 𝓓 s)
      (garbage 1
      & garbage 2
      & all_all_of _ (search (all_of_all _ (commit 3), garbage 3))
      & all_all_of _ (search (amortize 4, all_of_all _ (commit 4)))
      & bound 6
      & all_all_of _ (search (all_of_all _ (commit 7), all_of_all _ (garbage 7), all_of_all _ (amortize 7)) depth 20)
      & all_all_of _ (search (all_of_all _ (commit 8), all_of_all _ (garbage 8), all_of_all _ (amortize 8)) depth 20)
      & garbage 9
      & amortize 10
      & tt)

-- ---- the next instance and its parts

module _ (𝓢 : Statement) (𝓓 : Draws) (ν μ : ℕ) (chunked : chunks 𝓢.tz (pos ν) (pos μ) ≡ true) where
  open 𝓢 use {relation, tz, κ, κ₁, κ₂, t₁, t₂}
  open relation use {d, n, r}

  -- part i of the opening o
  pub part-taken : first_failing (size_tests 𝓢 𝓓) ≡ 0
      → (i : ℕ) (o : List ℤ) → 1 ≤ i → i ≤ next_parts tz ν μ → length o ≡ opening_size tz n r κ t₁ t₂ * d
      → first_failing (part_tests d n r κ t₁ t₂ tz ν μ i o) ≡ 0
  unfolding part_tests
  part-taken taken i o least most size =
      let row = holds (size_tests 𝓢 𝓓) refl taken in
      passes_refusal (part_tests d n r κ t₁ t₂ tz ν μ i o)
      (row 1
      & all_all_of _ (search (between-tested, all_of_all _ (row 2)))
      & search (all_of_all _ (row 3))
      & all_all_of _ (search (all_of_all _ (row 4)))
      & chunked
      & length-sized _ _ size
      & tt)

  -- what the verifier takes beside an opening, written to a list of the length that the sizes give
  pub next-taken : (𝓣 : Transcript) (o out : List ℤ) → first_failing (verify_tests 𝓢 𝓓 𝓣 o) ≡ 0 → n' 𝓢 𝓓 𝓣 ν μ ≤ 256
      → length out ≡ whole_length d (n' 𝓢 𝓓 𝓣 ν μ) (r' 𝓢 𝓓 𝓣 ν μ) (next_count κ κ₁ κ₂)
      → first_failing (next_tests 𝓢 𝓓 𝓣 ν μ out) ≡ 0
  unfolding verify_tests next_tests
  next-taken 𝓣 o out taken small size =
      let row = holds (verify_tests 𝓢 𝓓 𝓣 o) refl taken in
      passes_refusal (next_tests 𝓢 𝓓 𝓣 ν μ out)
      (row 1
      & row 2
      & row 3
      & row 4
      & chunked
      & row 6
      & all_all_of _ (search (length-sized, all_of_all _ (row 7)) depth 20)
      & all_all_of _ (search (all_of_all _ (row 8)) depth 20)
      & row 9
      & row 10
      & le-leb (n' 𝓢 𝓓 𝓣 ν μ) 256 small
      & tt)
