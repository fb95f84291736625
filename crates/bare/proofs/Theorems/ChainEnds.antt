-- The end of a chain (SPECIFICATION 14.11): "The next instance of a fold with one z digit has no mixed products (8.6), so row 14 does not refuse it, whatever
-- the draws. Where the opening of that fold is accepted, its padded parts meet all constraints of the next instance, and 14.9 holds of the bare level with
-- them as witness."
-- The next instance is the relation whose constraints are the numbers that the call left, where it answered `Written`. The fold's draws are 𝓓, those of the
-- bare level 𝓔.
--     chain_unmixed, chain_row_14    no mixed products, row 14
--     chain_meets                    the padded opening meets all constraints
--     lent_tests, chain_taken         beside the next instance and its witness, only what is lent anew can be refused: the tests on it
--     chain_ends                     14.9 of the bare level with the padded opening as witness, where nothing of it is refused
--     chain_ends_lent                the same where nothing that is lent anew is refused
use Rattle.std.specs.Prelude.{◌≡◌, Bool, true, ℕ, zero, suc, ◌+◌, ◌*◌, ◌-◌, ◌/◌, ◌≤◌, ◌<◌, max, ℤ, pos}
use Rattle.std.proofs.Math.Path.{refl, sym, ap}
use Rattle.std.proofs.Common.{subst, ◌∙◌, mul_assoc, zero-mul, div-add-mod', mod-lt}
use mathlib.Core.List.{List, [], ◌∷◌, ◌++◌}
use native.Mathlib.Omega.{arith}
use Rattle.std.proofs.Math.ListN.{length}
use borrow.Author.Tests.{leb-true}
use Rattle.residues.specs.Range.{coefficients, projection_entries}
use Rattle.fold.specs.Answers.{Written, Judged}
use Rattle.fold.specs.Answers.{kind_of, first_failing}
use Rattle.fold.specs.Limits.{most_constraints}
use Rattle.fold.specs.Sizes.{five, ceiling, next_rank, next_parts, next_count, opening_size}
use Rattle.fold.specs.Statement.{Relation, Meets, Statement, Draws, Transcript}
use Rattle.fold.specs.Verification.{verification}
use Rattle.fold.specs.NextInstance.{m, n', r', next_whole, next_witness, relation_of}
use Rattle.fold.specs.NextCall.{next_answer, next_out}
use Rattle.fold.specs.Refusals.{all_of, shape, constraint_count, projection_count, commitment_rank, length_bound, sized, in_range, challenges}
use Rattle.fold.specs.Refusals.{projection_length, constant_terms_length, next_tests}
use Rattle.fold.specs.Known.CallLimits.{chunk-limits}
use Rattle.fold.specs.Laws.RefusalLaws.{◌&◌, passes_refusal, All, all_of_all, all_all_of, length-sized}
use Rattle.fold.specs.Laws.RefusalLaws.{rank_iff, parts_iff, constraint_count_iff, rank-least, commitment_rank-most}
use Rattle.fold.specs.Laws.TestLaws.{Rows, holds}
use Rattle.fold.proofs.Laws.VerificationLaws.{AcceptedOpening, accepted-opening}
use Rattle.fold.proofs.Laws.PaddingLaws.{length-padded}
use Rattle.fold.proofs.Laws.NextCallLaws.{written_iff, written_out, length-next_whole, next-instance-written}
use Rattle.fold.proofs.Theorems.OneDigit.{Unmixed, next-unmixed}
use Rattle.bare.specs.Statement.{BareStatement}
use Rattle.bare.specs.Honest.{honest_z, honest_transcript, honest_opening}
use Rattle.bare.specs.Refusals.{all_unmixed, bare_prover_tests}
use Rattle.bare.specs.Arguments.{bare_verification}
use Rattle.bare.proofs.Laws.UnmixedLaws.{row_14}
use Rattle.bare.proofs.Laws.BareRanges.{coefficients-nil, coefficients-next_whole, coefficients-padded}
use Rattle.bare.proofs.Theorems.BareHonestRuns.{BareHonestVerdict, honest_answers}

-- the tests on what is lent at the bare level beside a relation and a witness: w, κ and the bound on z, A and the draws
module _ (𝓑 : BareStatement) (𝓔 : Draws) where
  open 𝓑 use {relation, w, κ, z_bound, A}
  open relation use {d, n, r, K, L}
  open 𝓔 use {projections, ψ, ω, α, δ, c}

  abbrev pub lent_lengths : List Bool
  lent_lengths =
      sized A (κ * n * d)
      ∷ sized c (r * d)
      ∷ sized projections (projection_length d n r w)
      ∷ sized ψ (five * L)
      ∷ sized ω (five * w)
      ∷ sized α (K * d)
      ∷ sized δ (five * d)
      ∷ []

  abbrev pub lent_tests : List (ℕ × Bool)
  lent_tests =
      (2, projection_count (pos w))
      ∷ (3, commitment_rank (pos κ))
      ∷ (6, length_bound (pos z_bound))
      ∷ (7, all_of lent_lengths)
      ∷ (8, all_of (in_range (A ∷ c ∷ projections ∷ ψ ∷ ω ∷ α ∷ δ ∷ [])))
      ∷ (9, projection_entries projections)
      ∷ (10, challenges d r c)
      ∷ []

-- n' is above 0
some-rank : (n ν k μ : ℕ) → 0 < n → 0 < ν → 1 ≤ next_rank n ν k μ
unfolding next_rank ceiling
some-rank n ν k μ some h = step ((n + (ν - 1)) / ν) refl
  where
    step : (x : ℕ) → (n + (ν - 1)) / ν ≡ x → 1 ≤ max ((n + (ν - 1)) / ν) ((k + (μ - 1)) / μ)
    step zero e =
        let x = n + (ν - 1) in
        absurd (omega (arith, some, h, rw e at (div-add-mod' x ν), mod-lt x h))
    step (suc x) e = omega (arith, e)

module _ (𝓢 : Statement) (𝓓 : Draws) (𝓣 : Transcript) (ν μ : ℕ) (out out' : List ℤ)
    (called : next_answer 𝓢 𝓓 𝓣 ν μ out ≡ Written) (is : out' ≡ next_out 𝓢 𝓓 𝓣 ν μ out) where
  open 𝓢 use {relation, tz, κ, κ₁, κ₂}
  open relation use {d, n}

  -- the next instance
  abbrev pub last : Relation
  last = relation_of 𝓢 𝓓 𝓣 ν μ out'

  numbers : out' ≡ next_whole 𝓢 𝓓 𝓣 ν μ
  numbers = is ∙ written_out 𝓢 𝓓 𝓣 ν μ out called

  -- ---- mixed products

  pub chain_unmixed : tz ≡ 1 → Unmixed last
  chain_unmixed one = rw numbers (next-unmixed 𝓢 𝓓 𝓣 ν μ one)

  pub chain_row_14 : tz ≡ 1 → all_unmixed last.d last.n last.r last.K last.L last.whole last.constant_terms ≡ true
  chain_row_14 one = (row_14 last).1 (chain_unmixed one)

  -- ---- the opening of the fold is accepted

  module _ (o : List ℤ) (accepted : kind_of (verification 𝓢 𝓓 𝓣 o) ≡ 0) where
    opened : AcceptedOpening 𝓢 𝓓 𝓣 o
    opened = accepted-opening 𝓢 𝓓 𝓣 o accepted

    -- its padded parts
    abbrev pub witness : List ℤ
    witness = next_witness 𝓢 𝓓 𝓣 ν μ o

    pub chain_meets : Meets last witness
    chain_meets = ((next-instance-written 𝓢 𝓓 𝓣 ν μ out called is o opened.sized opened.digits-narrow).0 accepted).meets

    row : Rows (next_tests 𝓢 𝓓 𝓣 ν μ out)
    unfolding next_tests
    row = holds (next_tests 𝓢 𝓓 𝓣 ν μ out) refl ((written_iff 𝓢 𝓓 𝓣 ν μ out).0 called).0

    length-witness : length witness ≡ r' 𝓢 𝓓 𝓣 ν μ * n' 𝓢 𝓓 𝓣 ν μ * d
    unfolding next_tests opening_size
    length-witness =
        let cut = chunk-limits tz ν μ (row 5) in
        length-padded d tz n ν (m 𝓢 𝓓 𝓣 ν μ) μ cut.ν-positive cut.μ-positive o opened.sized
        ∙ sym (mul_assoc (r' 𝓢 𝓓 𝓣 ν μ) (n' 𝓢 𝓓 𝓣 ν μ) d)

    -- the sizes of the next instance are within the limits
    sizes-taken : All (shape (pos (n' 𝓢 𝓓 𝓣 ν μ)) (pos (r' 𝓢 𝓓 𝓣 ν μ)) ++ (constraint_count (pos (next_count κ κ₁ κ₂)) ∷ constraint_count (pos 0) ∷ []))
    unfolding next_tests next_parts next_count
    sizes-taken =
        let cut = chunk-limits tz ν μ (row 5) in
        let ranks = all_of_all _ (row 3) in
        let some : 0 < n = rank-least n (search (all_of_all _ (row 2))) in
        let few : κ + κ₁ + κ₂ + 3 ≤ most_constraints =
        omega (arith, commitment_rank-most κ (search ranks), commitment_rank-most κ₁ (search ranks), commitment_rank-most κ₂ (search ranks)) in
        (rank_iff _).1 (some-rank n ν _ μ some cut.ν-positive, leb-true _ _ (row 11))
        & (parts_iff _).1 (omega (arith, cut.μ-positive), cut.parts-small)
        & (constraint_count_iff _).1 (omega arith, few)
        & (constraint_count_iff 0).1 (omega arith, omega arith)
        & tt

    taken : tz ≡ 1 → (w κ' z_bound : ℕ) (A : List ℤ) (𝓔 : Draws)
        → first_failing (lent_tests (record { relation = last; w = w; κ = κ'; z_bound = z_bound; A = A }) 𝓔) ≡ 0
        → first_failing (bare_prover_tests (record { relation = last; w = w; κ = κ'; z_bound = z_bound; A = A }) 𝓔 witness) ≡ 0
    unfolding next_tests bare_prover_tests constant_terms_length
    taken one w κ' z_bound A 𝓔 none =
        let lent = holds (lent_tests (record { relation = last; w = w; κ = κ'; z_bound = z_bound; A = A }) 𝓔) refl none in
        let long = all_of_all _ (lent 7) in
        let small = all_of_all _ (lent 8) in
        let whole_long = length-sized out' _ (ap length numbers ∙ length-next_whole 𝓢 𝓓 𝓣 ν μ out) in
        let terms-long = length-sized [] _ (sym (zero-mul _)) in
        let whole-small = ap coefficients numbers ∙ coefficients-next_whole 𝓢 𝓓 𝓣 ν μ in
        passes_refusal (bare_prover_tests (record { relation = last; w = w; κ = κ'; z_bound = z_bound; A = A }) 𝓔 witness)
        (row 1
        & all_all_of _ (sizes-taken.0 & sizes-taken.1.0 & sizes-taken.1.1.0 & sizes-taken.1.1.1.0 & lent 2 & tt)
        & lent 3
        & all_all_of _ (search (all_of_all _ (row 6), lent 6))
        & all_all_of _ (length-sized witness _ length-witness & long.0 & long.1.0 & whole_long & terms-long & long.1.1)
        & all_all_of _
        (coefficients-padded d tz n ν (m 𝓢 𝓓 𝓣 ν μ) μ o opened.small & small.0 & small.1.0 & whole-small & coefficients-nil & small.1.1)
        & lent 9
        & lent 10
        & chain_row_14 one
        & tt)

    pub chain_taken : tz ≡ 1 → (𝓑 : BareStatement) (𝓔 : Draws) → 𝓑.relation ≡ last
        → first_failing (lent_tests 𝓑 𝓔) ≡ 0 → first_failing (bare_prover_tests 𝓑 𝓔 witness) ≡ 0
    chain_taken one 𝓑 𝓔 e =
        subst
        (λ (x : Relation). first_failing (lent_tests (record { relation = x; w = 𝓑.w; κ = 𝓑.κ; z_bound = 𝓑.z_bound; A = 𝓑.A }) 𝓔) ≡ 0
        → first_failing (bare_prover_tests (record { relation = x; w = 𝓑.w; κ = 𝓑.κ; z_bound = 𝓑.z_bound; A = 𝓑.A }) 𝓔 witness) ≡ 0)
        (sym e) (taken one 𝓑.w 𝓑.κ 𝓑.z_bound 𝓑.A 𝓔)

    pub chain_ends : (𝓑 : BareStatement) (𝓔 : Draws) → 𝓑.relation ≡ last → first_failing (bare_prover_tests 𝓑 𝓔 witness) ≡ 0
        → BareHonestVerdict 𝓑 (honest_transcript 𝓑 𝓔 witness).p (honest_z 𝓑 𝓔 witness)
        (λ v. bare_verification 𝓑 𝓔 (honest_transcript 𝓑 𝓔 witness) (honest_opening 𝓑 𝓔 witness) ≡ Judged v)
    chain_ends 𝓑 𝓔 e unrefused = honest_answers 𝓑 𝓔 witness unrefused (subst (λ (x : Relation). Meets x witness) (sym e) chain_meets)

    pub chain_ends_lent : tz ≡ 1 → (𝓑 : BareStatement) (𝓔 : Draws) → 𝓑.relation ≡ last → first_failing (lent_tests 𝓑 𝓔) ≡ 0
        → BareHonestVerdict 𝓑 (honest_transcript 𝓑 𝓔 witness).p (honest_z 𝓑 𝓔 witness)
        (λ v. bare_verification 𝓑 𝓔 (honest_transcript 𝓑 𝓔 witness) (honest_opening 𝓑 𝓔 witness) ≡ Judged v)
    chain_ends_lent one 𝓑 𝓔 e none = chain_ends 𝓑 𝓔 e (chain_taken one 𝓑 𝓔 e none)
