-- The bare level (SPECIFICATION 14) for the answers of its calls, by their promises alone. That of `bare_verify` is `answer ≡ bare_verification ..`, accepted
-- where its kind is 0. Turns are counted from 1, parts from 0.
--     honest_bare_calls     14.9: "the verdict on the honest messages and bare opening is failed 1 exactly when 2·|p|² is above w·β²; otherwise failed 7 exactly
--                           when |z|² is above the bound on z; otherwise accepted, with that bound minus |z|² as margin"
--     honest_bare_judged    "The verifier does not refuse the honest messages and bare opening": whatever the witness
--     two_accepted_bare     14.10: "A(z - z') = (c_i - c'_i) t_i, and the squared length of z - z' is at most 4 times the bound on z"
--     bare_exactly          14.8: accepted with m exactly if m and |z|² are together the bound on z
--     bare_number           the number of an answer of kind 0 is that margin: in C too; it is at most 999999999999999
--     bare_first_fails      14.7: "the first that fails is named": failed k exactly when check k is the first of the seven whose test fails
--     chain_end             14.11: the padded opening of an accepted fold, and the next instance that the call wrote, as witness and statement of a bare run
-- The cases of 14.9 are `BareHonestVerdict`, crates/bare/proofs/Theorems/BareHonestRuns.antt; those of 14.10 `BareShortPreimage`, BareTwoOpenings.antt there.
-- That no call refuses what it is lent for an honest run: BareTaken.antt there; row 14: MixedProducts.antt.
use Rattle.std.specs.Prelude.{◌≡◌, refl, ◌↔◌, ◌≢◌, List, [], ℕ, suc, ◌+◌, ◌*◌, ◌-◌, ◌≤◌, ◌<◌, take, ℤ}
use Rattle.std.proofs.Common.{sym, ap, ◌∙◌}
use Rattle.integers.specs.Sums.{norm_sq}
use Rattle.integers.specs.Flat.{flat}
use Rattle.ring.specs.Element.{el}
use Rattle.fold.specs.Answers.{Answer}
use Rattle.fold.specs.Answers.{Judged, Written}
use Rattle.fold.specs.Answers.{Accepted, Failed}
use Rattle.fold.specs.declared.ZDigits.TheVariants.{One}
use Rattle.fold.specs.Answers.{kind_of, number_of, first_failing, answered}
use Rattle.fold.specs.Arguments.{draws_of}
use Rattle.fold.specs.Statement.{Meets, Statement, Draws, Transcript}
use Rattle.fold.specs.Verification.{verification}
use Rattle.fold.specs.NextInstance.{next_witness, relation_of}
use Rattle.fold.proofs.Laws.HonestWritten.{left}
use Rattle.fold.specs.Laws.TestLaws.{First}
use Rattle.fold.proofs.Theorems.HonestRuns.{judged_iff}
use Rattle.next_instance.specs.Calls.{NextCalled}
use Rattle.bare.specs.declared.BareSizes.{BareSizes}
use Rattle.bare.specs.Statement.{BareStatement, BareTranscript}
use Rattle.bare.specs.Messages.{bare_opening}
use Rattle.bare.specs.Opening.{z_numbers}
use Rattle.bare.specs.Verdict.{bare_checks, bare_verdict}
use Rattle.bare.specs.Refusals.{bare_bound_tests, bare_prover_tests, bare_verify_tests}
use Rattle.bare.specs.Arguments.{bare_statement_of, bare_transcript_of, constraint_sizes_of, bare_verification}
use Rattle.bare.specs.Calls.{BareCommitted, BarePhiFormed, BareTurned}
use Rattle.bare.proofs.Laws.BareAccepted.{bare_failed_iff}
use Rattle.bare.proofs.Theorems.BareCalls.{bare_tested, honest_bare_written, judged_bare_written}
use Rattle.bare.proofs.Theorems.BareHonestRuns.{BareHonestVerdict}
use Rattle.bare.proofs.Theorems.BareTwoOpenings.{BareShortPreimage, bare_two_openings}
use Rattle.bare.proofs.Theorems.BareMargin.{margin-exactly, number_is, number_small}
use Rattle.bare.proofs.Theorems.ChainEnds.{chain_meets}
use Rattle.lizkarg.specs.Calls.{Projected, Aggregated, Amortized}
use Rattle.theorems.specs.OneDigit.{amortize-whole}

-- ---- honest runs

module _ (sizes : BareSizes) (A whole constant_terms projections ψ ω α δ c s : List ℤ) where
  abbrev pub 𝓢 : BareStatement
  𝓢 = bare_statement_of sizes A whole constant_terms

  abbrev pub 𝓓 : Draws
  𝓓 = draws_of projections ψ ω α δ c

  -- the calls, from one statement, one witness and one set of draws, answered `Written`, and the lists that held `before` hold these numbers; turn i is lent
  -- the challenges before it alone, and turns i is what it left
  pub record BareRun (p b'' t phi z : List ℤ) (turns : ℕ → List ℤ) : Type 0 where
    pub before : record { p : List ℤ; b'' : List ℤ; t : List ℤ; phi : List ℤ; z : List ℤ; turns : ℕ → List ℤ }
    pub message_2 : Projected sizes.shape sizes.w projections s before.p Written p
    pub message_3 : Aggregated sizes.shape sizes.l sizes.w constant_terms projections ψ ω s before.b'' Written b''
    pub t-written : BareCommitted sizes.shape sizes.kappa A s before.t Written t
    pub phi_written : BarePhiFormed (constraint_sizes_of sizes) whole constant_terms projections ψ ω α δ before.phi Written phi
    pub turn-written : (i : ℕ) → 1 ≤ i → i ≤ sizes.shape.r
        → BareTurned sizes.shape i phi (take ((i - 1) * sizes.shape.d) c) s (before.turns i) Written (turns i)
    pub message_5 : Amortized sizes.shape One c s before.z Written z

  module _ {p b'' t phi z : List ℤ} {turns : ℕ → List ℤ} (run : BareRun p b'' t phi z turns) (bounds : first_failing (bare_bound_tests 𝓢 𝓓) ≡ 0)
      (answer : Answer) (is : answer ≡ bare_verification 𝓢 𝓓 (bare_transcript_of p b'') (bare_opening t z (flat sizes.shape.r (λ i. turns (suc i))))) where
    unrefused : first_failing (bare_prover_tests 𝓢 𝓓 s) ≡ 0
    unrefused = bare_tested sizes A whole constant_terms projections ψ ω α δ c s _ run.t-written run.phi_written run.message_5.answer-is bounds

    -- where β² and the bound on z keep row 6: no message takes them, and all else the calls have tested
    pub honest_bare_calls : Meets 𝓢.relation s → BareHonestVerdict 𝓢 p z (λ v. answer ≡ Judged v)
    honest_bare_calls meets =
        honest_bare_written sizes A whole constant_terms projections ψ ω α δ c s run.phi_written run.before.turns turns run.turn-written run.t-written
        (left _ _ _ run.message_2.answer-is run.message_2.p-is) (left _ _ _ run.message_3.answer-is run.message_3.b-is)
        (amortize-whole run.message_5 refl) unrefused is meets

    pub honest_bare_judged : answer ≡ Judged (bare_verdict 𝓢 𝓓 (bare_transcript_of p b'') (bare_opening t z (flat sizes.shape.r (λ i. turns (suc i)))))
    honest_bare_judged =
        judged_bare_written sizes A whole constant_terms projections ψ ω α δ c s run.phi_written run.before.turns turns run.turn-written run.t-written
        (left _ _ _ run.message_2.answer-is run.message_2.p-is) (left _ _ _ run.message_3.answer-is run.message_3.b-is)
        (amortize-whole run.message_5 refl) unrefused is

-- ---- two openings

pub two_accepted_bare : (𝓢 : BareStatement) (𝓓 𝓓' : Draws) (𝓣 𝓣' : BareTranscript) (o o' : List ℤ) (answer answer' : Answer)
    → answer ≡ bare_verification 𝓢 𝓓 𝓣 o → answer' ≡ bare_verification 𝓢 𝓓' 𝓣' o' → kind_of answer ≡ 0 → kind_of answer' ≡ 0
    → take (𝓢.relation.r * 𝓢.κ * 𝓢.relation.d) o ≡ take (𝓢.relation.r * 𝓢.κ * 𝓢.relation.d) o'
    → (i : ℕ) → i < 𝓢.relation.r → ((j : ℕ) → j < 𝓢.relation.r → j ≢ i → el 𝓢.relation.d 𝓓.c j ≡ el 𝓢.relation.d 𝓓'.c j)
    → BareShortPreimage 𝓢 𝓓 𝓓' o o' i
two_accepted_bare 𝓢 𝓓 𝓓' 𝓣 𝓣' o o' answer answer' is is' e e' =
    bare_two_openings 𝓢 𝓓 𝓓' o o' 𝓣 𝓣' (ap kind_of (sym is) ∙ e) (ap kind_of (sym is') ∙ e')

-- ---- what accepted carries

module _ (𝓢 : BareStatement) (𝓓 : Draws) (𝓣 : BareTranscript) (o : List ℤ) (answer : Answer) (is : answer ≡ bare_verification 𝓢 𝓓 𝓣 o) where
  abbrev pub zs : List ℤ
  zs = z_numbers 𝓢.relation.d 𝓢.relation.n 𝓢.relation.r 𝓢.κ o

  pub bare_exactly : kind_of answer ≡ 0 → (m : ℕ) → (answer ≡ Judged (Accepted m)) ↔ (m + norm_sq zs ≡ 𝓢.z_bound)
  bare_exactly e m = rw is (margin-exactly 𝓢 𝓓 𝓣 o (ap kind_of (sym is) ∙ e) m)

  pub bare_number : kind_of answer ≡ 0 → number_of answer + norm_sq zs ≡ 𝓢.z_bound
  bare_number e = rw is (number_is 𝓢 𝓓 𝓣 o (ap kind_of (sym is) ∙ e))

  pub bare_number-small : kind_of answer ≡ 0 → number_of answer ≤ 999999999999999
  bare_number-small e = rw is (number_small 𝓢 𝓓 𝓣 o (ap kind_of (sym is) ∙ e))

  -- where no row refuses
  pub bare_first_fails : first_failing (bare_verify_tests 𝓢 𝓓 𝓣 o) ≡ 0 → (k : ℕ) → 0 < k → (answer ≡ Judged (Failed k)) ↔ First (bare_checks 𝓢 𝓓 𝓣 o) k
  unfolding answered
  bare_first_fails none k some = rw (is, none) (judged_iff (bare_failed_iff 𝓢 𝓓 𝓣 o k some))

-- ---- the end of a chain

-- a fold whose next instance was written and whose opening was accepted: "its padded parts meet all constraints of the next instance", so that a bare run with
-- them, of the statement that was written, is judged by its lengths alone. Row 14 is tested by `bare_phi` and `bare_verify`; where the fold has one z digit it never refuses
-- (`next_not_14`, `next_phi_not_14`, MixedProducts.antt), and beside it only what is lent anew can be refused (`chain_taken`, crates/bare/proofs/Theorems/ChainEnds.antt)
module _ (𝓢 : Statement) (𝓓 : Draws) (𝓣 : Transcript) (ν μ : ℕ) (out out' o : List ℤ) (called : NextCalled 𝓢 𝓓 𝓣 ν μ out Written out')
    (folded : Answer) (folded-is : folded ≡ verification 𝓢 𝓓 𝓣 o) (accepted : kind_of folded ≡ 0) where
  pub chain_end : (sizes : BareSizes) (A projections ψ ω α δ c : List ℤ)
      → (bare_statement_of sizes A out' []).relation ≡ relation_of 𝓢 𝓓 𝓣 ν μ out'
      → {p b'' t phi z : List ℤ} {turns : ℕ → List ℤ} → BareRun sizes A out' [] projections ψ ω α δ c (next_witness 𝓢 𝓓 𝓣 ν μ o) p b'' t phi z turns
      → first_failing (bare_bound_tests (bare_statement_of sizes A out' []) (draws_of projections ψ ω α δ c)) ≡ 0
      → (answer : Answer)
      → answer ≡ bare_verification (bare_statement_of sizes A out' []) (draws_of projections ψ ω α δ c) (bare_transcript_of p b'') (bare_opening t z (flat sizes.shape.r (λ i. turns (suc i))))
      → BareHonestVerdict (bare_statement_of sizes A out' []) p z (λ v. answer ≡ Judged v)
  chain_end sizes A projections ψ ω α δ c same run bounds answer is =
      honest_bare_calls sizes A out' [] projections ψ ω α δ c (next_witness 𝓢 𝓓 𝓣 ν μ o) run bounds answer is
      (rw same (chain_meets 𝓢 𝓓 𝓣 ν μ out out' (sym called.answer-is) called.out-is o (ap kind_of (sym folded-is) ∙ accepted)))
