-- The verdict of the bare level, check by check: it is accepted exactly when the seven facts of SPECIFICATION 14.7 hold, and Failed k exactly when check k
-- is the first that fails. Below, what it says that the verifier accepts: its call is not refused, so the opening has its length and range, the
-- challenges keep the rule, and no constraint has mixed products.
--     BareAccepts, bare_accepts, bare_accepted, bare_accepted_iff     the seven facts
--     bare_failed_iff                                                 the first check that fails
--     BareAcceptedOpening, bare_accepted-opening                      an answer of kind 0
use Rattle.std.specs.Prelude.{◌≡◌, ◌↔◌, true, List, ℕ, ◌+◌, ◌*◌, ◌<◌, ◌≤◌, length, get_or, take, drop, ℤ, pos}
use Rattle.std.proofs.Math.Path.{refl, ap}
use Rattle.std.proofs.Common.{sym}
use borrow.Author.Tests.{leb-true, le-leb, eqb-true, eq-eqb}
use Rattle.integers.specs.Sums.{norm_sq}
use Rattle.algebra.specs.Laws.ResidueLaws.{residue_eq}
use Rattle.algebra.specs.Sum.{sum}
use Rattle.algebra.specs.Conjugation.{ct}
use Rattle.algebra.specs.DotProduct.{inner}
use Rattle.residues.specs.Modulus.{Zq, red}
use Rattle.residues.specs.Range.{coefficients, challenge}
use Rattle.ring.specs.Element.{R, el, same}
use Rattle.ring.specs.Laws.ElementEquality.{every_true, true-every, same_true, same_iff}
use Rattle.fold.specs.Answers.{Verdict}
use Rattle.fold.specs.Answers.{Accepted, Failed}
use Rattle.fold.specs.Answers.{Judged}
use Rattle.fold.specs.Answers.{kind_of, judged}
use Rattle.fold.specs.Sizes.{five}
use Rattle.fold.specs.Statement.{Draws, term_constant}
use Rattle.fold.specs.Messages.{times, aggregate_constant}
use Rattle.fold.specs.Verdict.{check₁, check₂, check₅}
use Rattle.fold.specs.Laws.RefusalLaws.{all_of_all, sized-length, challenges_iff}
use Rattle.fold.specs.Laws.TestLaws.{passing, none-fails, holds, First, first_iff, accepted-none, failed-number, number-failed}
use Rattle.fold.proofs.Laws.VerificationLaws.{judged-accepted}
use Rattle.fold.proofs.Theorems.OneDigit.{Unmixed}
use Rattle.bare.specs.Statement.{BareStatement, BareTranscript, bare_aggregate}
use Rattle.bare.specs.Opening.{bare_size, t_at, z_at, mixedΦat, ownΦat, mixed_zat, own_zat, z_numbers}
use Rattle.bare.specs.Verdict.{in_turn, garbage_of_z, garbage_ofΦ, aggregate_holds, z_short, bare_checks, bare_margin, bare_verdict}
use Rattle.bare.specs.Refusals.{bare_verify_tests}
use Rattle.bare.specs.Arguments.{bare_verify_refusal, bare_verification}
use Rattle.bare.proofs.Laws.UnmixedLaws.{row_14}

module _ (𝓢 : BareStatement) (𝓓 : Draws) (𝓣 : BareTranscript) (o : List ℤ) where
  open 𝓢 use {relation, w, κ, z_bound, A}
  open relation use {d, n, r, K, L, bound, whole, constant_terms}
  open 𝓓 use {ψ, ω, α, δ, c}
  open 𝓣 use {p, b''}

  -- checks 1 to 7 as facts
  pub record BareAccepts : Type 0 where
    -- "2·|p|² ≤ w·β²"
    pub projected : 2 * norm_sq p ≤ w * bound
    -- "each b''_k has constant term Σψ b' + Σω p"
    pub constant_term : (k : ℕ) → k < five
        → ct Zq (el d b'' k)
        ≡ Zq.add
        (sum Zq L (λ l. Zq.mul (red (get_or ψ (k * L + l) (pos 0))) (red (term_constant d n r constant_terms l))))
        (sum Zq w (λ j. Zq.mul (red (get_or ω (k * w + j) (pos 0))) (red (get_or p j (pos 0)))))
    -- "A z = Σ c_i t_i"
    pub amortized : (k : ℕ) → k < κ → times d n A k (z_at d n r κ o) ≡ sum (R d) r (λ i. (R d).mul (el d c i) (t_at d n r κ o i k))
    -- "<z,z> = the sum over all turns of (mixed z)·c_i + (own z)·c_i²"
    pub self_product : inner (R d) n (z_at d n r κ o) (z_at d n r κ o) ≡ in_turn (R d) r (mixed_zat d n r κ o) (own_zat d n r κ o) (el d c)
    -- "Σ<φ_i,z>c_i = the sum over all turns of (mixed φ)·c_i + (own φ)·c_i²"
    pub linear_part : sum (R d) r (λ i. (R d).mul (inner (R d) n ((bare_aggregate 𝓢 𝓓).φ i) (z_at d n r κ o)) (el d c i))
        ≡ in_turn (R d) r (mixedΦat d n r κ o) (ownΦat d n r κ o) (el d c)
    -- "Σ a_ii·(own z of turn i) + Σ (own φ of turn i) = b"
    pub relation-holds : (R d).add
        (sum (R d) r (λ i. (R d).mul ((bare_aggregate 𝓢 𝓓).a i i) (own_zat d n r κ o i)))
        (sum (R d) r (ownΦat d n r κ o))
        ≡ aggregate_constant d n r K whole α δ b''
    -- "|z|² ≤ the bound on z"
    pub short : norm_sq (z_numbers d n r κ o) ≤ z_bound

module _ (𝓢 : BareStatement) (𝓓 : Draws) (𝓣 : BareTranscript) (o : List ℤ) where
  open 𝓢 use {relation, κ}
  open relation use {d, n, r}
  open 𝓓 use {c}

  pub bare_accepts : kind_of (Judged (bare_verdict 𝓢 𝓓 𝓣 o)) ≡ 0 → BareAccepts 𝓢 𝓓 𝓣 o
  unfolding bare_verdict check₁ check₂ check₅ garbage_of_z garbage_ofΦ aggregate_holds z_short
  bare_accepts e =
      let check = holds (bare_checks 𝓢 𝓓 𝓣 o) refl (accepted-none _ _ e) in
      record {
        projected = leb-true _ _ (check 1);
        constant_term = λ k l. residue_eq (eqb-true _ _ (every_true five _ (check 2) k l));
        amortized = λ k l. same_true d _ _ (every_true κ _ (check 3) k l);
        self_product = same_true d _ _ (check 4);
        linear_part = same_true d _ _ (check 5);
        relation-holds = same_true d _ _ (check 6);
        short = leb-true _ _ (check 7);
      }

  true_same : {u v : (R d).Carrier} → u ≡ v → same d u v ≡ true
  true_same {u} {v} e = (same_iff d u v).1 e

  pub bare_accepted : BareAccepts 𝓢 𝓓 𝓣 o → bare_verdict 𝓢 𝓓 𝓣 o ≡ Accepted (bare_margin 𝓢 𝓓 𝓣 o)
  unfolding bare_verdict judged check₁ check₂ check₅ garbage_of_z garbage_ofΦ aggregate_holds z_short
  bare_accepted h =
      ap (λ k. judged k (bare_margin 𝓢 𝓓 𝓣 o)) (sym
      (passing 1 _ (le-leb _ _ h.projected)
      (passing 2 _ (true-every five _ (λ k l. eq-eqb _ _ (ap (λ x. x.val) (h.constant_term k l))))
      (passing 3 _ (true-every κ _ (λ k l. true_same (h.amortized k l)))
      (passing 4 _ (true_same h.self_product)
      (passing 5 _ (true_same h.linear_part)
      (passing 6 _ (true_same h.relation-holds)
      (passing 7 _ (le-leb _ _ h.short) none-fails))))))))

  pub bare_accepted_iff : (kind_of (Judged (bare_verdict 𝓢 𝓓 𝓣 o)) ≡ 0) ↔ BareAccepts 𝓢 𝓓 𝓣 o
  bare_accepted_iff = (bare_accepts, λ h. ap (λ (v : Verdict). kind_of (Judged v)) (bare_accepted h))

  -- "the first that fails is named": its test fails, and those of lower numbers hold
  pub bare_failed_iff : (k : ℕ) → 0 < k → (bare_verdict 𝓢 𝓓 𝓣 o ≡ Failed k) ↔ First (bare_checks 𝓢 𝓓 𝓣 o) k
  unfolding bare_verdict
  bare_failed_iff k some =
      let by_number = first_iff (bare_checks 𝓢 𝓓 𝓣 o) refl k some in
      (λ e. by_number.0 (failed-number _ _ k e), λ h. number-failed _ _ k some (by_number.1 h))

  -- ---- an accepted opening

  pub record BareAcceptedOpening : Type 0 where
    pub facts : BareAccepts 𝓢 𝓓 𝓣 o
    pub sized : length o ≡ bare_size n r κ * d
    pub small : coefficients o ≡ true
    pub p-small : coefficients 𝓣.p ≡ true
    pub b''-small : coefficients 𝓣.b'' ≡ true
    pub rule : (i : ℕ) → i < r → challenge (take d (drop (i * d) c)) ≡ true
    pub unmixed : Unmixed relation

  pub bare_accepted-opening : kind_of (bare_verification 𝓢 𝓓 𝓣 o) ≡ 0 → BareAcceptedOpening
  unfolding bare_verify_tests
  bare_accepted-opening e =
      let (unrefused, passed) = judged-accepted (bare_verify_refusal 𝓢 𝓓 𝓣 o) (bare_verdict 𝓢 𝓓 𝓣 o) e in
      let row = holds (bare_verify_tests 𝓢 𝓓 𝓣 o) refl unrefused in
      record {
        facts = bare_accepts passed;
        sized = sized-length o _ (search (all_of_all _ (row 7)));
        small = search (all_of_all _ (row 8));
        p-small = search (all_of_all _ (row 8));
        b''-small = search (all_of_all _ (row 8));
        rule = (challenges_iff d r c).0 (row 10);
        unmixed = (row_14 relation).0 (row 14);
      }
