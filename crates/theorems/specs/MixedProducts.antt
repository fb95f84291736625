-- SPECIFICATION 7, row 14: "some constraint has a nonzero a_ij with i < j (bare level only)". For the calls that take constraints, from their promises
-- alone: `bare_verify`, whose promise is `answer ≡ bare_verification ..`, and `bare_phi`, whose promise is `BarePhiFormed`. `Mixed`
-- (crates/bare/proofs/Laws/UnmixedLaws.antt) says it by constraint and index, of both kinds; `MixedNumbers` there by numbers (7.l).
--     verify_refused_14, phi_refused_14    refused by 14 exactly when "some constraint has a nonzero a_ij with i < j", where the tests of all lower rows hold
--     verify-mixed-numbers                 the same by numbers: "nonzero says that some of its d numbers is not 0" (7.l)
--     accepted-unmixed                     an accepted bare opening is of a statement without mixed products
--     next_not_14, next_phi_not_14         the next instance of a fold with one z digit, as it was written, is never refused by 14, "whatever the draws" (14.11)
use Rattle.std.specs.Prelude.{◌≡◌, true, false, ◌↔◌, ◌≢◌, List, [], ℕ, ◌<◌, ℤ}
use Rattle.std.proofs.Common.{sym, ap, ◌∙◌, arith}
use Rattle.fold.specs.Answers.{Answer}
use Rattle.fold.specs.Answers.{Refused, Written}
use Rattle.fold.specs.declared.ConstraintSizes.{ConstraintSizes}
use Rattle.fold.specs.Answers.{kind_of, test_of}
use Rattle.fold.specs.Statement.{Relation, Statement, Draws, Transcript}
use Rattle.fold.specs.NextInstance.{relation_of}
use Rattle.fold.specs.Laws.RefusalLaws.{false_true, all_of_all}
use Rattle.fold.specs.Laws.TestLaws.{first_iff}
use Rattle.fold.proofs.Theorems.FirstRefusal.{fails-first, first-fails}
use Rattle.fold.proofs.Theorems.OneDigit.{Unmixed}
use Rattle.next_instance.specs.Calls.{NextCalled}
use Rattle.bare.specs.Statement.{BareStatement, BareTranscript}
use Rattle.bare.specs.Refusals.{all_unmixed, bare_phi_tests, bare_verify_tests}
use Rattle.bare.specs.Arguments.{bare_verification}
use Rattle.bare.specs.Calls.{BarePhiFormed}
use Rattle.bare.proofs.Laws.UnmixedLaws.{Mixed, MixedNumbers, row_14, mixed-refused, mixed-numbers-refused}
use Rattle.bare.proofs.Laws.BareAccepted.{bare_accepted-opening}
use Rattle.bare.proofs.Theorems.ChainEnds.{chain_unmixed}
use Rattle.bare.proofs.Theorems.BareRising.{bare_phi-rising, bare_verify_rising}
use Rattle.theorems.specs.Refusals.{bare_phi-refuses, bare_verify_refuses}

module _ (𝓢 : BareStatement) (𝓓 : Draws) (𝓣 : BareTranscript) (o : List ℤ) (answer : Answer) (is : answer ≡ bare_verification 𝓢 𝓓 𝓣 o) where
  pub verify_refused_14 : (answer ≡ Refused 14) ↔ (((j : ℕ) → j < 14 → test_of j (bare_verify_tests 𝓢 𝓓 𝓣 o) ≡ true) × Mixed 𝓢.relation)
  unfolding bare_verify_tests
  verify_refused_14 =
      let exactly = (bare_verify_refuses 𝓢 𝓓 𝓣 o answer is).exactly 14 in
      let first = first_iff (bare_verify_tests 𝓢 𝓓 𝓣 o) (bare_verify_rising 𝓢 𝓓 𝓣 o) 14 (omega arith) in (
        λ e.
            let one = first.0 (fails-first _ 14 (exactly.0 e)) in
            (one.lower, (mixed-refused 𝓢.relation).0 one.fails),
        λ h. exactly.1 (first-fails _ 13 (first.1 (record { fails = (mixed-refused 𝓢.relation).1 h.1; lower = h.0 }))),
      )

  pub verify-mixed-numbers : (answer ≡ Refused 14) ↔ (((j : ℕ) → j < 14 → test_of j (bare_verify_tests 𝓢 𝓓 𝓣 o) ≡ true) × MixedNumbers 𝓢.relation)
  unfolding bare_verify_tests
  verify-mixed-numbers = (
    λ e. let (lower, mixed) = verify_refused_14.0 e in (lower, (numbers lower).0 ((mixed-refused 𝓢.relation).1 mixed)),
    λ h. verify_refused_14.1 (h.0, (mixed-refused 𝓢.relation).0 ((numbers h.0).1 h.1)),
  )
    where
      numbers : ((j : ℕ) → j < 14 → test_of j (bare_verify_tests 𝓢 𝓓 𝓣 o) ≡ true)
          → (all_unmixed 𝓢.relation.d 𝓢.relation.n 𝓢.relation.r 𝓢.relation.K 𝓢.relation.L 𝓢.relation.whole 𝓢.relation.constant_terms ≡ false)
          ↔ MixedNumbers 𝓢.relation
      numbers lower =
          let small = all_of_all _ (lower 8 (omega arith)) in
          mixed-numbers-refused 𝓢.relation (search small) (search small)

  pub accepted-unmixed : kind_of answer ≡ 0 → Unmixed 𝓢.relation
  accepted-unmixed e = (bare_accepted-opening 𝓢 𝓓 𝓣 o (ap kind_of (sym is) ∙ e)).unmixed

-- the statement of which φ is formed; its bound is not lent
module _ (m : ConstraintSizes) (whole constant_terms projections ψ ω α δ v : List ℤ) where
  abbrev pub 𝓡 : Relation
  𝓡 = record { d = m.shape.d; n = m.shape.n; r = m.shape.r; K = m.k; L = m.l; bound = 0; whole = whole; constant_terms = constant_terms }

  pub phi_refused_14 : {v' : List ℤ} {answer : Answer} → BarePhiFormed m whole constant_terms projections ψ ω α δ v answer v'
      → (answer ≡ Refused 14)
      ↔ (((j : ℕ) → j < 14 → test_of j (bare_phi_tests m.shape.d m.shape.n m.shape.r m.k m.l m.w whole constant_terms projections ψ ω α δ v) ≡ true) × Mixed 𝓡)
  unfolding bare_phi_tests
  phi_refused_14 call =
      let exactly = (bare_phi-refuses call).exactly 14 in
      let first = first_iff (bare_phi_tests m.shape.d m.shape.n m.shape.r m.k m.l m.w whole constant_terms projections ψ ω α δ v)
      (bare_phi-rising m.shape.d m.shape.n m.shape.r m.k m.l m.w whole constant_terms projections ψ ω α δ v) 14 (omega arith) in (
        λ e.
            let one = first.0 (fails-first _ 14 (exactly.0 e)) in
            (one.lower, (mixed-refused 𝓡).0 one.fails),
        λ h. exactly.1 (first-fails _ 13 (first.1 (record { fails = (mixed-refused 𝓡).1 h.1; lower = h.0 }))),
      )

-- a fold with one z digit, whose next instance was written
module _ (𝓢 : Statement) (𝓓 : Draws) (𝓣 : Transcript) (ν μ : ℕ) (out out' : List ℤ) (called : NextCalled 𝓢 𝓓 𝓣 ν μ out Written out') (one : 𝓢.tz ≡ 1) where
  written-unmixed : Unmixed (relation_of 𝓢 𝓓 𝓣 ν μ out')
  written-unmixed = chain_unmixed 𝓢 𝓓 𝓣 ν μ out out' (sym called.answer-is) called.out-is one

  pub next_not_14 : (𝓑 : BareStatement) (𝓔 : Draws) (𝓤 : BareTranscript) (o : List ℤ) → 𝓑.relation ≡ relation_of 𝓢 𝓓 𝓣 ν μ out'
      → (answer : Answer) → answer ≡ bare_verification 𝓑 𝓔 𝓤 o → answer ≢ Refused 14
  next_not_14 𝓑 𝓔 𝓤 o same answer is e =
      let unmixed : Unmixed 𝓑.relation = rw same written-unmixed in
      false_true (sym ((mixed-refused 𝓑.relation).1 ((verify_refused_14 𝓑 𝓔 𝓤 o answer is).0 e).1) ∙ (row_14 𝓑.relation).1 unmixed)

  -- the constraints as they were written, of the sizes of the next instance
  pub next_phi_not_14 : (m : ConstraintSizes) (projections ψ ω α δ v : List ℤ) {v' : List ℤ} {answer : Answer}
      → m.shape.d ≡ (relation_of 𝓢 𝓓 𝓣 ν μ out').d → m.shape.n ≡ (relation_of 𝓢 𝓓 𝓣 ν μ out').n → m.shape.r ≡ (relation_of 𝓢 𝓓 𝓣 ν μ out').r
      → m.k ≡ (relation_of 𝓢 𝓓 𝓣 ν μ out').K → m.l ≡ 0
      → BarePhiFormed m out' [] projections ψ ω α δ v answer v' → answer ≢ Refused 14
  next_phi_not_14 m projections ψ ω α δ v d-is n-is r-is k-is l-is call e =
      let mixed = ((phi_refused_14 m out' [] projections ψ ω α δ v call).0 e).1 in
      let unmixed : Unmixed (𝓡 m out' [] projections ψ ω α δ v) =
      rw (d-is, n-is, r-is, k-is, l-is) (record { wholly = written-unmixed.wholly; in_constant_term = written-unmixed.in_constant_term }) in
      false_true (sym ((mixed-refused (𝓡 m out' [] projections ψ ω α δ v)).1 mixed) ∙ (row_14 (𝓡 m out' [] projections ψ ω α δ v)).1 unmixed)
