-- Honest runs of the bare level (SPECIFICATION 14.9) for the answers of the calls, from their promises alone: `bare_commit`, `bare_phi` and the turns answered
-- `Written`, each turn with the φ that `bare_phi` left and the challenges before it. The promises of messages 2, 3 and 5 are taken by what they left.
--     bare_tested             the calls have tested the statement, the draws and the witness, but for row 6
--     turns_written           what the turns left, one after the other, is that of the honest opening
--     honest_bare_written     the answer of the verifier
--     judged_bare_written     the same whatever the witness: it is a judgement
use Rattle.std.specs.Prelude.{◌≡◌, refl, List, ℕ, zero, suc, ◌*◌, ◌-◌, ◌≤◌, ◌<◌, take, ℤ}
use Rattle.std.proofs.Common.{ap, ◌∙◌, arith}
use Rattle.integers.specs.Flat.{flat}
use Rattle.integers.specs.Laws.FlatLaws.{flat_cong}
use Rattle.residues.specs.Digits.{least_base}
use Rattle.fold.specs.Answers.{Answer}
use Rattle.fold.specs.Answers.{Judged, Written}
use Rattle.fold.specs.Answers.{first_failing, answered}
use Rattle.fold.specs.Arguments.{draws_of}
use Rattle.fold.specs.Statement.{Meets, Draws, part}
use Rattle.fold.specs.Messages as Messages
use Rattle.fold.specs.Messages.{elements}
use Rattle.fold.specs.Refusals.{amortize_tests}
use Rattle.fold.proofs.Laws.HonestWritten.{written-zero, left}
use Rattle.bare.specs.declared.BareSizes.{BareSizes}
use Rattle.bare.specs.Statement.{BareStatement, bare_aggregate}
use Rattle.bare.specs.Messages.{bare_opening, turn}
use Rattle.bare.specs.Honest.{honest_t, honest_turn, honest_turns}
use Rattle.bare.specs.Verdict.{bare_verdict}
use Rattle.bare.specs.Refusals.{bare_bound_tests, bare_prover_tests}
use Rattle.bare.specs.Arguments.{bare_statement_of, bare_transcript_of, constraint_sizes_of, bare_verification}
use Rattle.bare.specs.Calls.{BareCommitted, phi_of, BarePhiFormed, BareTurned}
use Rattle.bare.proofs.Laws.BareOpeningLaws.{turn_of_phi}
use Rattle.bare.proofs.Theorems.BareTaken.{bare_messages_test-all}
use Rattle.bare.proofs.Theorems.BareHonestRuns.{BareHonestVerdict, honest_judged, honest_answers}

module _ (sizes : BareSizes) (A whole constant_terms projections ψ ω α δ c s : List ℤ) where
  open sizes use {shape, w, kappa}
  open shape use {d, n, r}

  abbrev pub 𝓢 : BareStatement
  𝓢 = bare_statement_of sizes A whole constant_terms

  abbrev pub 𝓓 : Draws
  𝓓 = draws_of projections ψ ω α δ c

  -- v, v₁ and v₂ are what the calls were lent to write to; message 5 is that with one digit, where the least base stands for b
  pub bare_tested : {v t v₁ phi : List ℤ} (v₂ : List ℤ)
      → BareCommitted shape kappa A s v Written t
      → BarePhiFormed (constraint_sizes_of sizes) whole constant_terms projections ψ ω α δ v₁ Written phi
      → Written ≡ answered (first_failing (amortize_tests d n r 1 least_base c s v₂)) Written
      → first_failing (bare_bound_tests 𝓢 𝓓) ≡ 0
      → first_failing (bare_prover_tests 𝓢 𝓓 s) ≡ 0
  bare_tested {v} {v₁ = v₁} v₂ committed formed amortized bounds =
      bare_messages_test-all 𝓢 𝓓 s v v₁ v₂
      (written-zero _ committed.answer-is) (written-zero _ formed.answer-is) (written-zero _ amortized) bounds

  -- the turns, from 1 to r: u i is what turn i was lent to write to, and turns i what it left
  module _ {v₁ phi : List ℤ} (formed : BarePhiFormed (constraint_sizes_of sizes) whole constant_terms projections ψ ω α δ v₁ Written phi)
      (u turns : ℕ → List ℤ) (turned : (i : ℕ) → 1 ≤ i → i ≤ r → BareTurned shape i phi (take ((i - 1) * d) c) s (u i) Written (turns i)) where
    phi-is : phi ≡ phi_of (constraint_sizes_of sizes) whole constant_terms projections ψ ω α δ
    phi-is = left _ _ _ formed.answer-is formed.phi-is

    turn-written : (j : ℕ) → j < r → turns (suc j) ≡ honest_turn 𝓢 𝓓 s j
    turn-written j h =
        let call = turned (suc j) (omega arith) (omega arith) in
        let number : suc j - 1 ≡ j = omega arith in
        left _ _ _ call.answer-is call.turn_is
        ∙ ap (λ (k : ℕ). turn d n (part d n phi) (take (k * d) c) s k) number
        ∙ ap (λ (xs : List ℤ). turn d n (part d n xs) (take (j * d) c) s j) phi-is
        ∙ turn_of_phi d n r (bare_aggregate 𝓢 𝓓).φ (take (j * d) c) s j h

    pub turns_written : flat r (λ i. turns (suc i)) ≡ honest_turns 𝓢 𝓓 s
    turns_written = flat_cong r _ _ turn-written

    -- what the other calls left
    module _ {v t p b'' z : List ℤ} (committed : BareCommitted shape kappa A s v Written t)
        (p-is : p ≡ Messages.p d n r w projections s) (b-is : b'' ≡ Messages.b'' d n r sizes.l w constant_terms projections ψ ω s)
        (z-is : z ≡ elements d n (Messages.z d n r c s)) (unrefused : first_failing (bare_prover_tests 𝓢 𝓓 s) ≡ 0)
        {answer : Answer} (is : answer ≡ bare_verification 𝓢 𝓓 (bare_transcript_of p b'') (bare_opening t z (flat r (λ i. turns (suc i))))) where
      t-is : t ≡ honest_t 𝓢 𝓓 s
      t-is = left _ _ _ committed.answer-is committed.t-is

      pub honest_bare_written : Meets 𝓢.relation s → BareHonestVerdict 𝓢 p z (λ x. answer ≡ Judged x)
      honest_bare_written meets = rw (is, p-is, b-is, z-is, t-is, turns_written) (honest_answers 𝓢 𝓓 s unrefused meets)

      pub judged_bare_written : answer ≡ Judged (bare_verdict 𝓢 𝓓 (bare_transcript_of p b'') (bare_opening t z (flat r (λ i. turns (suc i)))))
      judged_bare_written = is ∙ rw (p-is, b-is, z-is, t-is, turns_written) (honest_judged 𝓢 𝓓 s unrefused)
