-- The verdict, check by check: it is accepted exactly when the nine facts of SPECIFICATION 6 hold, and Failed k exactly when check k is
-- the first that fails.
use Rattle.std.specs.Prelude.{◌≡◌, ◌↔◌, true, List, ℕ, ◌+◌, ◌*◌, ◌<◌, ◌≤◌, get_or, ℤ, pos}
use Rattle.std.proofs.Math.Path.{refl, sym, ap}
use borrow.Author.Tests.{leb-true, le-leb, eqb-true, eq-eqb}
use Rattle.integers.specs.Sums.{norm_sq}
use Rattle.algebra.specs.Laws.ResidueLaws.{residue_eq}
use Rattle.algebra.specs.Sum.{sum}
use Rattle.algebra.specs.Triangle.{rows}
use Rattle.algebra.specs.Conjugation.{ct}
use Rattle.algebra.specs.DotProduct.{inner, mixed}
use Rattle.residues.specs.Modulus.{Zq, red}
use Rattle.ring.specs.Element.{R, el, same}
use Rattle.ring.specs.Laws.ElementEquality.{every_true, true-every, same_true, same_refl}
use Rattle.fold.specs.Answers.{Verdict}
use Rattle.fold.specs.Answers.{Accepted, Failed}
use Rattle.fold.specs.Answers.{Judged}
use Rattle.fold.specs.Answers.{kind_of, judged}
use Rattle.fold.specs.Statement.{term_constant}
use Rattle.fold.specs.Messages.{times, outer₁, outer₂, aggregate_constant, aggregated}
use Rattle.fold.specs.Sizes.{five}
use Rattle.fold.specs.Statement.{Statement, Draws, Transcript}
use Rattle.fold.specs.Verdict.{margin, verdict, checks}
use Rattle.fold.specs.Opening.{digits_length}
use Rattle.fold.specs.Verdict.{t_block, g_block, h_block, zᵒ, tᵒ, gᵒ, hᵒ}
use Rattle.fold.specs.Verdict.{check₁, check₂, check₃, check₄, check₅, check₆, check₇, check₈, check₉}
use Rattle.fold.specs.Laws.TestLaws.{passing, none-fails, holds, First, first_iff, accepted-none, failed-number, number-failed}

module _ (𝓢 : Statement) (𝓓 : Draws) (𝓣 : Transcript) (o : List ℤ) where
  open 𝓢 use {relation, w, tz, κ, κ₁, κ₂, b, b₁, b₂, t₁, t₂, target, A, B, C, D}
  open relation use {d, n, r, K, L, bound, whole, constant_terms}
  open 𝓓 use {projections, ψ, ω, α, δ, c}
  open 𝓣 use {u₁, p, b'', u₂}

  -- checks 1 to 9 as facts
  pub record Accepts : Type 0 where
    -- "2·|p|² ≤ w·β²"
    pub projected : 2 * norm_sq p ≤ w * bound
    -- "Each b''_k has constant term Σψ b' + Σω p."
    pub constant_term : (k : ℕ) → k < five
        → ct Zq (el d b'' k)
        ≡ Zq.add
        (sum Zq L (λ l. Zq.mul (red (get_or ψ (k * L + l) (pos 0))) (red (term_constant d n r constant_terms l))))
        (sum Zq w (λ j. Zq.mul (red (get_or ω (k * w + j) (pos 0))) (red (get_or p j (pos 0)))))
    -- "u1 equation"
    pub first-outer : (k : ℕ) → k < κ₁ → outer₁ d r κ t₁ t₂ B C k (t_block 𝓢 𝓓 𝓣 o) (g_block 𝓢 𝓓 𝓣 o) ≡ el d u₁ k
    -- "u2 equation"
    pub second-outer : (k : ℕ) → k < κ₂ → outer₂ d r t₁ D k (h_block 𝓢 𝓓 𝓣 o) ≡ el d u₂ k
    -- "A z = Σ c_i t_i"
    pub amortized : (k : ℕ) → k < κ → times d n A k (zᵒ 𝓢 𝓓 𝓣 o) ≡ sum (R d) r (λ i. (R d).mul (el d c i) (tᵒ 𝓢 𝓓 𝓣 o i k))
    -- "<z,z> = Σ g_ii c_i² + 2Σ_{i<j} g_ij c_i c_j"
    pub self_product : inner (R d) n (zᵒ 𝓢 𝓓 𝓣 o) (zᵒ 𝓢 𝓓 𝓣 o) ≡ mixed (R d) r (gᵒ 𝓢 𝓓 𝓣 o) (el d c)
    -- "Σ<φ_i,z>c_i = Σ h_ii c_i² + 2Σ_{i<j} h_ij c_i c_j"
    pub linear_part : sum (R d) r (λ i. (R d).mul (inner (R d) n ((aggregated 𝓢 𝓓).φ i) (zᵒ 𝓢 𝓓 𝓣 o)) (el d c i))
        ≡ mixed (R d) r (hᵒ 𝓢 𝓓 𝓣 o) (el d c)
    -- "Σ a_ij g_ij + Σ h_ii = b"
    pub relation-holds : (R d).add
        (rows (R d) r (λ i j. (R d).mul ((aggregated 𝓢 𝓓).a i j) (gᵒ 𝓢 𝓓 𝓣 o i j)))
        (sum (R d) r (λ i. hᵒ 𝓢 𝓓 𝓣 o i i))
        ≡ aggregate_constant d n r K whole α δ b''
    -- "All digits' squared length ≤ β'²"
    pub short : digits_length d n r tz κ t₁ t₂ o ≤ target

true_same : (d : ℕ) {u v : (R d).Carrier} → u ≡ v → same d u v ≡ true
true_same d {v} e = rw e (same_refl d v)

module _ (𝓢 : Statement) (𝓓 : Draws) (𝓣 : Transcript) (o : List ℤ) where
  open 𝓢 use {relation, κ, κ₁, κ₂}
  open relation use {d}

  pub accepts : kind_of (Judged (verdict 𝓢 𝓓 𝓣 o)) ≡ 0 → Accepts 𝓢 𝓓 𝓣 o
  unfolding verdict check₁ check₂ check₃ check₄ check₅ check₆ check₇ check₈ check₉
  accepts e =
      let check = holds (checks 𝓢 𝓓 𝓣 o) refl (accepted-none _ _ e) in
      record {
        projected = leb-true _ _ (check 1);
        constant_term = λ k l. residue_eq (eqb-true _ _ (every_true five _ (check 2) k l));
        first-outer = λ k l. sym (same_true d _ _ (every_true κ₁ _ (check 3) k l));
        second-outer = λ k l. sym (same_true d _ _ (every_true κ₂ _ (check 4) k l));
        amortized = λ k l. same_true d _ _ (every_true κ _ (check 5) k l);
        self_product = same_true d _ _ (check 6);
        linear_part = same_true d _ _ (check 7);
        relation-holds = same_true d _ _ (check 8);
        short = leb-true _ _ (check 9);
      }

  pub accepted : Accepts 𝓢 𝓓 𝓣 o → verdict 𝓢 𝓓 𝓣 o ≡ Accepted (margin 𝓢 𝓓 𝓣 o)
  unfolding verdict judged check₁ check₂ check₃ check₄ check₅ check₆ check₇ check₈ check₉
  accepted h =
      ap (λ k. judged k (margin 𝓢 𝓓 𝓣 o)) (sym
      (passing 1 _ (le-leb _ _ h.projected)
      (passing 2 _ (true-every five _ (λ k l. eq-eqb _ _ (ap (λ x. x.val) (h.constant_term k l))))
      (passing 3 _ (true-every κ₁ _ (λ k l. true_same d (sym (h.first-outer k l))))
      (passing 4 _ (true-every κ₂ _ (λ k l. true_same d (sym (h.second-outer k l))))
      (passing 5 _ (true-every κ _ (λ k l. true_same d (h.amortized k l)))
      (passing 6 _ (true_same d h.self_product)
      (passing 7 _ (true_same d h.linear_part)
      (passing 8 _ (true_same d h.relation-holds)
      (passing 9 _ (le-leb _ _ h.short) none-fails))))))))))

  pub accepted_iff : (kind_of (Judged (verdict 𝓢 𝓓 𝓣 o)) ≡ 0) ↔ Accepts 𝓢 𝓓 𝓣 o
  accepted_iff = (accepts, λ h. ap (λ (v : Verdict). kind_of (Judged v)) (accepted h))

  -- "The first check that fails is named": its test fails, and those of lower numbers hold
  pub failed_iff : (k : ℕ) → 0 < k → (verdict 𝓢 𝓓 𝓣 o ≡ Failed k) ↔ First (checks 𝓢 𝓓 𝓣 o) k
  unfolding verdict
  failed_iff k some =
      let by_number = first_iff (checks 𝓢 𝓓 𝓣 o) refl k some in
      (λ e. by_number.0 (failed-number _ _ k e), λ h. number-failed _ _ k some (by_number.1 h))
