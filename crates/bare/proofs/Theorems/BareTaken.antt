-- SPECIFICATION 14.9: "no call refuses what it is lent for them": where the statement, the draws and the witness are not refused and what is written to
-- has its length, none of the calls of the bare level refuses. SPECIFICATION 7.a: "a call tests only what it takes." `bare_commit`, `bare_phi` and
-- message 5 with one digit together test all of them but row 6.
--     bare_commit_taken, bare_phi-taken, bare_turn_taken     t, φ and a turn
--     bare_project_taken, bare_aggregate-taken, bare_amortize_taken     messages 2, 3 and 5, the latter with one digit
--     bare_messages_test-all
--     challenges-before     the challenges before a turn keep the rule where all do
--     turn-tested           what a turn that is not refused has tested of its lists
use Rattle.std.specs.Prelude.{◌≡◌, List, [], ◌∷◌, ◌++◌, ℕ, zero, suc, ◌+◌, ◌*◌, ◌-◌, ◌≤◌, ◌<◌, take, drop, ℤ, pos}
use Rattle.std.proofs.Math.Path.{refl}
use Rattle.std.proofs.Common.{ap, ◌∙◌, take-take}
use Rattle.std.proofs.Math.Bool.{true}
use Rattle.std.proofs.Math.Nat.{mul-le-mul_right}
use native.Mathlib.Omega.{arith}
use Rattle.std.proofs.Math.ListN.{length}
use Rattle.std.proofs.Math.Seq.{length-take-le}
use Rattle.residues.specs.Digits.{least_base}
use Rattle.residues.specs.Range.{coefficients, challenge}
use Rattle.residues.proofs.Laws.RangeLaws.{coefficients-part}
use Rattle.ring.specs.Laws.ElementPlaces.{block-before}
use Rattle.fold.specs.Answers.{first_failing}
use Rattle.fold.specs.Sizes.{five}
use Rattle.fold.specs.Statement.{Draws}
use Rattle.fold.specs.Refusals.{degree, shape, counts, sized, challenges, project_tests, aggregate_tests, amortize_tests}
use Rattle.fold.specs.Laws.RefusalLaws.{Passes, ◌&◌, passes_refusal, All, all_of_all, all_all_of}
use Rattle.fold.specs.Laws.RefusalLaws.{length-sized, sized-length, base_iff, between-tested, challenges_iff}
use Rattle.fold.specs.Laws.TestLaws.{Rows, holds}
use Rattle.bare.specs.Statement.{BareStatement, bare_aggregate}
use Rattle.bare.specs.Messages.{four, bare_phi}
use Rattle.bare.specs.Refusals.{bare_commit_tests, bare_phi_tests, bare_turn_tests, bare_prover_tests}
use Rattle.bare.specs.Refusals.{bare_bound_tests, bare_given_lengths, bare_given_ranges, bare_draw_tests}
use Rattle.bare.proofs.Laws.BareOpeningLaws.{length-bare_phi}
use Rattle.bare.proofs.Laws.BareRanges.{coefficients-bare_phi}

-- ---- the challenges before a turn

part-before : (m a n : ℕ) (xs : List ℤ) → a + m ≤ n → take m (drop a (take n xs)) ≡ take m (drop a xs)
part-before m zero n xs h = take-take m n xs (omega arith)
part-before m (suc a) zero xs h = let no : ⊥ = omega arith in absurd no
part-before m (suc a) (suc n) [] h = refl
part-before m (suc a) (suc n) (x ∷ xs) h = part-before m a n xs (omega arith)

challenges-before : (d r i : ℕ) (c : List ℤ) → i ≤ r → challenges d r c ≡ true → challenges d i (take (i * d) c) ≡ true
challenges-before d r i c h e =
    (challenges_iff d i (take (i * d) c)).1
    (λ j l. ap challenge (part-before d (j * d) (i * d) c (block-before d j i l)) ∙ (challenges_iff d r c).0 e j (omega arith))

-- ---- what a turn that is not refused has tested of its lists

pub record TurnTested (d i : ℕ) (phi c s : List ℤ) : Type 0 where
  pub φ-small : coefficients phi ≡ true
  pub c-small : coefficients c ≡ true
  pub s-small : coefficients s ≡ true
  pub rule : (j : ℕ) → j < i - 1 → challenge (take d (drop (j * d) c)) ≡ true

pub turn-tested : (d n r i : ℕ) (phi c s out : List ℤ) → first_failing (bare_turn_tests d n r i phi c s out) ≡ 0 → TurnTested d i phi c s
unfolding bare_turn_tests
turn-tested d n r i phi c s out e =
    let row = holds (bare_turn_tests d n r i phi c s out) refl e in
    let small = all_of_all _ (row 8) in
    record { φ-small = search small; c-small = search small; s-small = search small; rule = (challenges_iff d (i - 1) c).0 (row 10) }

-- ---- the calls

module _ (𝓢 : BareStatement) (𝓓 : Draws) (s : List ℤ) (taken : first_failing (bare_prover_tests 𝓢 𝓓 s) ≡ 0) where
  open 𝓢 use {relation, w, κ, A}
  open relation use {d, n, r, K, L, whole, constant_terms}
  open 𝓓 use {projections, ψ, ω, α, δ, c}

  row : Rows (bare_prover_tests 𝓢 𝓓 s)
  unfolding bare_prover_tests
  row = holds (bare_prover_tests 𝓢 𝓓 s) refl taken

  row₁ : degree (pos d) ≡ true
  unfolding bare_prover_tests
  row₁ = row 1

  row₂ : All (shape (pos n) (pos r) ++ counts (pos K) (pos L) (pos w))
  unfolding bare_prover_tests
  row₂ = all_of_all _ (row 2)

  row₇ : All (sized s (r * n * d) ∷ bare_given_lengths 𝓢 𝓓)
  unfolding bare_prover_tests
  row₇ = all_of_all _ (row 7)

  row₈ : All (coefficients s ∷ bare_given_ranges 𝓢 𝓓)
  unfolding bare_prover_tests
  row₈ = all_of_all _ (row 8)

  draws : Passes (bare_draw_tests 𝓢 𝓓)
  unfolding bare_prover_tests
  draws = row 9 & row 10 & row 14 & tt

  -- t
  pub bare_commit_taken : (ts : List ℤ) → length ts ≡ r * κ * d → first_failing (bare_commit_tests d n r κ A s ts) ≡ 0
  unfolding bare_prover_tests bare_commit_tests
  bare_commit_taken ts t-size =
      passes_refusal (bare_commit_tests d n r κ A s ts)
      (row₁
      & all_all_of _ (search row₂)
      & row 3
      & all_all_of _ (search (length-sized, row₇) depth 20)
      & all_all_of _ (search row₈)
      & tt)

  -- φ
  pub bare_phi-taken : (phi : List ℤ) → length phi ≡ r * n * d
      → first_failing (bare_phi_tests d n r K L w whole constant_terms projections ψ ω α δ phi) ≡ 0
  unfolding bare_phi_tests
  bare_phi-taken phi phi-size =
      passes_refusal (bare_phi_tests d n r K L w whole constant_terms projections ψ ω α δ phi)
      (row₁
      & all_all_of _ row₂
      & all_all_of _ (search (length-sized, row₇) depth 20)
      & all_all_of _ (search row₈ depth 20)
      & search draws)

  -- turn i, from 1 to r, with the φ that is written and the challenges before it
  pub bare_turn_taken : (i : ℕ) (out : List ℤ) → 1 ≤ i → i ≤ r → length out ≡ four * d
      → first_failing (bare_turn_tests d n r i (bare_phi d n r (bare_aggregate 𝓢 𝓓).φ) (take ((i - 1) * d) c) s out) ≡ 0
  unfolding bare_turn_tests
  bare_turn_taken i out least most size =
      let c-size : length c ≡ r * d = sized-length c _ (search row₇) in
      let before : i - 1 ≤ r = omega arith in
      let c-long : length (take ((i - 1) * d) c) ≡ (i - 1) * d = length-take-le _ c (omega (arith, c-size, mul-le-mul_right d before)) in
      let c-small : coefficients (take ((i - 1) * d) c) ≡ true = coefficients-part 0 ((i - 1) * d) c (search row₈) in
      let s-sized : sized s (r * n * d) ≡ true = search row₇ in
      passes_refusal (bare_turn_tests d n r i (bare_phi d n r (bare_aggregate 𝓢 𝓓).φ) (take ((i - 1) * d) c) s out)
      (row₁
      & all_all_of _ (search (between-tested, row₂))
      & all_all_of _
      (length-sized _ _ (length-bare_phi d n r (bare_aggregate 𝓢 𝓓).φ) & length-sized _ _ c-long & s-sized & length-sized _ _ size & tt)
      & all_all_of _ (coefficients-bare_phi d n r (bare_aggregate 𝓢 𝓓).φ & c-small & search row₈ & tt)
      & challenges-before d r (i - 1) c before (search draws)
      & tt)

  -- message 2
  pub bare_project_taken : (p : List ℤ) → length p ≡ w → first_failing (project_tests d n r w projections s p) ≡ 0
  unfolding project_tests
  bare_project_taken p p-size =
      passes_refusal (project_tests d n r w projections s p)
      (row₁
      & all_all_of _ (search row₂)
      & all_all_of _ (search (length-sized, row₇) depth 20)
      & all_all_of _ (search row₈)
      & search draws)

  -- message 3
  pub bare_aggregate-taken : (b'' : List ℤ) → length b'' ≡ five * d → first_failing (aggregate_tests d n r L w constant_terms projections ψ ω s b'') ≡ 0
  unfolding aggregate_tests
  bare_aggregate-taken b'' b''-size =
      passes_refusal (aggregate_tests d n r L w constant_terms projections ψ ω s b'')
      (row₁
      & all_all_of _ (search row₂)
      & all_all_of _ (search (length-sized, row₇) depth 20)
      & all_all_of _ (search row₈ depth 20)
      & search draws)

  -- message 5 with one digit, where the least base stands for b
  pub bare_amortize_taken : (zs : List ℤ) → length zs ≡ n * d → first_failing (amortize_tests d n r 1 least_base c s zs) ≡ 0
  unfolding amortize_tests
  bare_amortize_taken zs z-size =
      let z-long : length zs ≡ 1 * n * d = omega arith in
      passes_refusal (amortize_tests d n r 1 least_base c s zs)
      (row₁
      & all_all_of _ (search row₂)
      & (base_iff least_base).1 (omega arith, omega arith)
      & all_all_of _ (search (length-sized, row₇) depth 20)
      & all_all_of _ (search row₈)
      & search draws)

-- whatever they write to, where these three refuse nothing and row 6 holds, the statement, the draws and the witness are taken
module _ (𝓢 : BareStatement) (𝓓 : Draws) (s : List ℤ) where
  open 𝓢 use {relation, w, κ, A}
  open relation use {d, n, r, K, L, whole, constant_terms}
  open 𝓓 use {projections, ψ, ω, α, δ, c}

  -- ts, phi and zs are what they were lent to write to
  pub bare_messages_test-all : (ts phi zs : List ℤ)
      → first_failing (bare_commit_tests d n r κ A s ts) ≡ 0
      → first_failing (bare_phi_tests d n r K L w whole constant_terms projections ψ ω α δ phi) ≡ 0
      → first_failing (amortize_tests d n r 1 least_base c s zs) ≡ 0
      → first_failing (bare_bound_tests 𝓢 𝓓) ≡ 0
      → first_failing (bare_prover_tests 𝓢 𝓓 s) ≡ 0
  unfolding bare_commit_tests bare_phi_tests amortize_tests bare_prover_tests
  bare_messages_test-all ts phi zs t-taken phi-taken z-taken bounds =
      let commit = holds (bare_commit_tests d n r κ A s ts) refl t-taken in
      let formed = holds (bare_phi_tests d n r K L w whole constant_terms projections ψ ω α δ phi) refl phi-taken in
      let amortize = holds (amortize_tests d n r 1 least_base c s zs) refl z-taken in
      let bound = holds (bare_bound_tests 𝓢 𝓓) refl bounds in
      passes_refusal (bare_prover_tests 𝓢 𝓓 s)
      (formed 1
      & formed 2
      & commit 3
      & bound 6
      & all_all_of _ (search (all_of_all _ (commit 7), all_of_all _ (formed 7), all_of_all _ (amortize 7)) depth 20)
      & all_all_of _ (search (all_of_all _ (commit 8), all_of_all _ (formed 8), all_of_all _ (amortize 8)) depth 20)
      & formed 9
      & amortize 10
      & formed 14
      & tt)
