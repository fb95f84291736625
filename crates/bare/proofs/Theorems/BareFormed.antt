-- SPECIFICATION 14.9: "The verifier does not refuse the honest messages and bare opening": their lengths are what the sizes give, and every number is in
-- range. What no call refuses stands in BareTaken.antt.
--     length-honest_opening, coefficients-honest_opening     the honest bare opening
--     honest_formed                                        the verifier's tests
use Rattle.std.specs.Prelude.{◌≡◌, true, List, ◌*◌, length, ℤ}
use Rattle.std.proofs.Math.Path.{refl}
use Rattle.residues.specs.Range.{coefficients}
use Rattle.residues.proofs.Laws.RangeLaws.{coefficients-join}
use Rattle.fold.specs.Answers.{first_failing}
use Rattle.fold.specs.Statement.{Draws}
use Rattle.fold.proofs.Laws.MessageLaws.{length-p, length-b''}
use Rattle.fold.proofs.Laws.MessageRanges.{coefficients-flat, coefficients-elements, coefficients-p, coefficients-b''}
use Rattle.fold.specs.Laws.RefusalLaws.{◌&◌, passes_refusal, all_of_tail, all_of_cons, length-sized}
use Rattle.fold.specs.Laws.TestLaws.{holds}
use Rattle.bare.specs.Statement.{BareStatement, BareTranscript}
use Rattle.bare.specs.Messages.{bare_opening}
use Rattle.bare.specs.Opening.{bare_size}
use Rattle.bare.specs.Honest.{honest_transcript, honest_opening}
use Rattle.bare.specs.Refusals.{bare_prover_tests, bare_verify_tests}
use Rattle.bare.proofs.Laws.BareOpeningLaws.{length-bare_opening}
use Rattle.bare.proofs.Laws.BareRanges.{coefficients-bare_t, coefficients-turn}
use Rattle.bare.proofs.Laws.BareHonestChecks.{length-honest_t, length-honest_z, length-honest_turns}

module _ (𝓢 : BareStatement) (𝓓 : Draws) (s : List ℤ) where
  open 𝓢 use {relation, w, κ, A}
  open relation use {d, n, r, L, constant_terms}
  open 𝓓 use {projections, ψ, ω}

  abbrev 𝓣 : BareTranscript
  𝓣 = honest_transcript 𝓢 𝓓 s

  abbrev o : List ℤ
  o = honest_opening 𝓢 𝓓 s

  pub length-honest_opening : length o ≡ bare_size n r κ * d
  length-honest_opening = length-bare_opening d n r κ _ _ _ (length-honest_t 𝓢 𝓓 s) (length-honest_z 𝓢 𝓓 s) (length-honest_turns 𝓢 𝓓 s)

  pub coefficients-honest_opening : coefficients o ≡ true
  unfolding bare_opening
  coefficients-honest_opening =
      coefficients-join _ _ (coefficients-bare_t d n r κ A s)
      (coefficients-join _ _ (coefficients-elements d n _) (coefficients-flat r _ (λ i _. coefficients-turn d n _ _ s i)))

  -- the statement, the draws and the witness are not refused: nor are they, with the honest messages, by the verifier
  pub honest_formed : first_failing (bare_prover_tests 𝓢 𝓓 s) ≡ 0 → first_failing (bare_verify_tests 𝓢 𝓓 𝓣 o) ≡ 0
  unfolding bare_prover_tests bare_verify_tests
  honest_formed taken =
      let row = holds (bare_prover_tests 𝓢 𝓓 s) refl taken in
      passes_refusal (bare_verify_tests 𝓢 𝓓 𝓣 o)
      (row 1
      & row 2
      & row 3
      & row 6
      & all_of_cons _ _ (length-sized o _ length-honest_opening)
      (all_of_cons _ _ (length-sized _ _ (length-p d n r w projections s))
      (all_of_cons _ _ (length-sized _ _ (length-b'' d n r L w constant_terms projections ψ ω s)) (all_of_tail _ _ (row 7))))
      & all_of_cons _ _ coefficients-honest_opening
      (all_of_cons _ _ (coefficients-p d n r w projections s)
      (all_of_cons _ _ (coefficients-b'' d n r L w constant_terms projections ψ ω s) (all_of_tail _ _ (row 8))))
      & row 9
      & row 10
      & row 14
      & tt)
