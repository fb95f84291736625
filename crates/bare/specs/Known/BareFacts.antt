-- What a call of the bare level that is not refused knows of its arguments, as far as its work needs it.
--     BareCommitFacts, BarePhiFacts, BareTurnFacts, BareVerifyFacts     for each call, of
--     BareMessageFacts, BareOpeningFacts, BareFoldedFacts, BareAggregateFacts     the verifier's checks
--     bare_commit_facts, bare_phi-facts, bare_turn_facts, bare_verify_facts     that no refusal gives it
use Rattle.std.specs.Prelude.{◌≡◌, List, ℕ, ◌*◌, ◌-◌, ◌≤◌, length, ℤ}
use Rattle.std.proofs.Math.Path.{refl}
use Rattle.fold.specs.declared.Shape.{Shape}
use Rattle.fold.specs.declared.ConstraintSizes.{ConstraintSizes}
use Rattle.fold.specs.Sizes.{five}
use Rattle.fold.specs.Limits.{most_bound, most_commitment_rank, most_projections}
use Rattle.fold.specs.Statement.{Draws}
use Rattle.fold.specs.Arguments.{draws_of}
use Rattle.fold.specs.Known.Facts.{Shaped}
use Rattle.fold.specs.Known.WorkFacts.{AggregateFacts, ConstantTermFacts}
use Rattle.fold.specs.Laws.RefusalLaws.{all_of_all, tested}
use Rattle.fold.specs.Laws.TestLaws.{holds}
use Rattle.bare.specs.declared.BareSizes.{BareSizes}
use Rattle.bare.specs.Statement.{BareStatement, BareTranscript}
use Rattle.bare.specs.Messages.{four}
use Rattle.bare.specs.Opening.{bare_size}
use Rattle.bare.specs.Refusals.{bare_commit_tests, bare_phi_tests, bare_turn_tests, bare_verify_tests}
use Rattle.bare.specs.Arguments.{bare_statement_of, bare_transcript_of, bare_commit_refusal, bare_phi_refusal, bare_turn_refusal, bare_verify_refusal}

-- ---- t and a turn

module _ (shape : Shape) where
  open shape use {d, n, r}

  pub record BareCommitFacts (κ : ℕ) (A s ts : List ℤ) : Type 0 where
    pub shaped : Shaped d n r
    pub κ-small : κ ≤ most_commitment_rank
    pub A-length : length A ≡ κ * n * d
    pub s-length : length s ≡ r * n * d
    pub ts_length : length ts ≡ r * κ * d

  pub bare_commit_facts : {κ : ℕ} {A s ts : List ℤ} → bare_commit_refusal shape κ A s ts ≡ 0 → BareCommitFacts κ A s ts
  unfolding bare_commit_tests
  bare_commit_facts {κ} {A} {s} {ts} e =
      let row = holds (bare_commit_tests d n r κ A s ts) refl e in
      search (tested, row 1, all_of_all _ (row 2), row 3, all_of_all _ (row 7))

  -- turn i, from 1 to r
  pub record BareTurnFacts (i : ℕ) (phi c s out : List ℤ) : Type 0 where
    pub shaped : Shaped d n r
    pub from_one : 1 ≤ i
    pub up_to_parts : i ≤ r
    pub phi-length : length phi ≡ r * n * d
    pub c-length : length c ≡ (i - 1) * d
    pub s-length : length s ≡ r * n * d
    pub out-length : length out ≡ four * d

  pub bare_turn_facts : {i : ℕ} {phi c s out : List ℤ} → bare_turn_refusal shape i phi c s out ≡ 0 → BareTurnFacts i phi c s out
  unfolding bare_turn_tests
  bare_turn_facts {i} {phi} {c} {s} {out} e =
      let row = holds (bare_turn_tests d n r i phi c s out) refl e in
      search (tested, row 1, all_of_all _ (row 2), all_of_all _ (row 7))

-- ---- φ

module _ (sizes : ConstraintSizes) where
  open sizes use {shape, k, l, w}
  open shape use {d, n, r}

  pub record BarePhiFacts (whole constant_terms projections ψ ω α δ phi : List ℤ) : Type 0 where
    pub aggregated : AggregateFacts d n r k l w whole constant_terms projections ψ ω α δ
    pub phi-length : length phi ≡ r * n * d

  pub bare_phi-facts : {whole constant_terms projections ψ ω α δ phi : List ℤ}
      → bare_phi_refusal sizes whole constant_terms projections ψ ω α δ phi ≡ 0
      → BarePhiFacts whole constant_terms projections ψ ω α δ phi
  unfolding bare_phi_tests
  bare_phi-facts {whole} {constant_terms} {projections} {ψ} {ω} {α} {δ} {phi} e =
      let row = holds (bare_phi_tests d n r k l w whole constant_terms projections ψ ω α δ phi) refl e in
      search (tested, row 1, all_of_all _ (row 2), all_of_all _ (row 7), row 9)

-- ---- the verifier

module _ (sizes : BareSizes) where
  open sizes use {shape, k, l, w, kappa, bound}
  open shape use {d, n, r}

  -- checks 1 and 2
  pub record BareMessageFacts (constant_terms ψ ω p b'' : List ℤ) : Type 0 where
    pub w-small : w ≤ most_projections
    pub bound-small : bound ≤ most_bound
    pub constant_term : ConstantTermFacts d n r l w constant_terms ψ ω p b''

  -- the challenges and the opening
  pub record BareOpeningFacts (c o : List ℤ) : Type 0 where
    pub shaped : Shaped d n r
    pub κ-small : kappa ≤ most_commitment_rank
    pub c-length : length c ≡ r * d
    pub o-length : length o ≡ bare_size n r kappa * d

  -- checks 3 and 4
  pub record BareFoldedFacts (A c o : List ℤ) : Type 0 where
    pub opened : BareOpeningFacts c o
    pub A-length : length A ≡ kappa * n * d

  -- checks 5, 6 and 7
  pub record BareAggregateFacts (whole constant_terms projections ψ ω b'' α δ c o : List ℤ) : Type 0 where
    pub opened : BareOpeningFacts c o
    pub aggregated : AggregateFacts d n r k l w whole constant_terms projections ψ ω α δ
    pub b''-length : length b'' ≡ five * d

  module _ (A whole constant_terms projections ψ ω α δ c p b'' o : List ℤ) where
    pub record BareVerifyFacts : Type 0 where
      pub message : BareMessageFacts constant_terms ψ ω p b''
      pub folded : BareFoldedFacts A c o
      pub aggregate : BareAggregateFacts whole constant_terms projections ψ ω b'' α δ c o

    abbrev 𝓢 : BareStatement
    𝓢 = bare_statement_of sizes A whole constant_terms

    abbrev 𝓓 : Draws
    𝓓 = draws_of projections ψ ω α δ c

    abbrev 𝓣 : BareTranscript
    𝓣 = bare_transcript_of p b''

    pub bare_verify_facts : bare_verify_refusal 𝓢 𝓓 𝓣 o ≡ 0 → BareVerifyFacts
    unfolding bare_verify_tests
    bare_verify_facts e =
        let row = holds (bare_verify_tests 𝓢 𝓓 𝓣 o) refl e in
        search (tested, row 1, all_of_all _ (row 2), row 3, all_of_all _ (row 6), all_of_all _ (row 7), row 9)
