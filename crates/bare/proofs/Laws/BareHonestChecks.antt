-- The honest messages and bare opening pass checks 2 to 6 of SPECIFICATION 14.7, and check 7 asks for the squared length of the honest z.
--     length-honest_t, length-honest_z, length-honest_turns     lengths
--     honest_t_lem, honest_z_lem, honest_turn_lem, honest_z_numbers  what stands in the honest opening
--     passes₂ .. passes₆, states₇                            the checks
use Rattle.std.specs.Prelude.{◌≡◌, refl, true, ℕ, ◌+◌, ◌*◌, ◌<◌, length, take, ℤ}
use Rattle.std.proofs.Math.Path.{sym, ap}
use Rattle.std.proofs.Common.{ap₂, ◌∙◌, arith}
use mathlib.Core.List.{List}
use Rattle.std.proofs.Math.Dec.{leb}
use borrow.Author.Tests.{eq-eqb}
use Rattle.integers.specs.Sums.{norm_sq}
use Rattle.algebra.specs.Laws.RingLaws.{zero-mul}
use Rattle.algebra.specs.Sum.{sum}
use Rattle.algebra.specs.Laws.SumLaws.{sum_cong}
use Rattle.algebra.specs.Triangle.{rows}
use Rattle.algebra.specs.Conjugation.{ct}
use Rattle.algebra.specs.DotProduct.{inner, value}
use Rattle.algebra.specs.Laws.DotProductLaws.{inner_cong}
use Rattle.algebra.proofs.Laws.FoldLaws.{folded_linear}
use Rattle.residues.specs.Modulus.{Zq}
use Rattle.ring.specs.Element.{R, el, same}
use Rattle.ring.specs.Laws.ElementEquality.{true-every, same_iff}
use Rattle.fold.specs.Sizes.{five}
use Rattle.fold.specs.Statement.{Meets, Draws, part}
use Rattle.fold.specs.Messages as Messages
use Rattle.fold.specs.Messages.{times}
use Rattle.fold.specs.Verdict.{check₂, check₅}
use Rattle.fold.proofs.Laws.AggregateLaws.{ct-second, value-aggregate}
use Rattle.fold.proofs.Laws.MessageLaws.{length-elements, el-elements}
use Rattle.fold.proofs.Laws.ReadingLaws.{times_cong}
use Rattle.fold.proofs.Theorems.OneDigit.{Unmixed}
use Rattle.bare.specs.Statement.{BareStatement, BareTranscript, bare_aggregate}
use Rattle.bare.specs.Messages.{four, mixedΦ, ownΦ, earlier_z, mixed_z, own_z, turn_element}
use Rattle.bare.specs.Opening.{t_at, z_at, turn_at, mixedΦat, ownΦat, mixed_zat, own_zat, z_numbers}
use Rattle.bare.specs.Honest.{honest_t, honest_z, honest_turns, honest_transcript, honest_opening}
use Rattle.bare.specs.Verdict.{garbage_of_z, garbage_ofΦ, aggregate_holds, z_short}
use Rattle.bare.proofs.Laws.InTurnLaws.{in_turn_cong, folded_in_turn, self_in_turn, rows_diagonal}
use Rattle.bare.proofs.Laws.UnmixedLaws.{aggregate-unmixed}
use Rattle.bare.proofs.Laws.BareOpeningLaws.{length-bare_t, el-bare_t, element_cong, el-before, length_turns, el_turns}
use Rattle.bare.proofs.Laws.BareOpeningLaws.{opening-t, opening-z, opening-turn, opening-z_numbers}

module _ (𝓢 : BareStatement) (𝓓 : Draws) (s : List ℤ) where
  open 𝓢 use {relation, w, κ, z_bound, A}
  open relation use {d, n, r, K, L, whole, constant_terms}
  open 𝓓 use {projections, ψ, ω, α, δ, c}

  abbrev o : List ℤ
  o = honest_opening 𝓢 𝓓 s

  abbrev 𝓣 : BareTranscript
  𝓣 = honest_transcript 𝓢 𝓓 s

  abbrev φ : ℕ → ℕ → (R d).Carrier
  φ = (bare_aggregate 𝓢 𝓓).φ

  -- ---- lengths

  pub length-honest_t : length (honest_t 𝓢 𝓓 s) ≡ r * κ * d
  length-honest_t = length-bare_t d n r κ A s

  pub length-honest_z : length (honest_z 𝓢 𝓓 s) ≡ n * d
  length-honest_z = length-elements d n (Messages.z d n r c s)

  pub length-honest_turns : length (honest_turns 𝓢 𝓓 s) ≡ r * four * d
  length-honest_turns = length_turns d n r φ (λ i. take (i * d) c) s

  -- ---- what stands in the opening

  pub honest_t_lem : (i k : ℕ) → i < r → k < κ → t_at d n r κ o i k ≡ Messages.t d n A s i k
  honest_t_lem i k h l = opening-t d n r κ _ _ _ length-honest_t length-honest_z i k h l ∙ el-bare_t d n r κ A s i k h l

  pub honest_z_lem : (k : ℕ) → k < n → z_at d n r κ o k ≡ Messages.z d n r c s k
  honest_z_lem k h = opening-z d n r κ _ _ _ length-honest_t length-honest_z k h ∙ el-elements d n (Messages.z d n r c s) k h

  -- a turn is made from the challenges before it, and is the same with all of them
  honest_turn_lem : (e i : ℕ) → e < four → i < r → turn_at d n r κ o e i ≡ turn_element d n φ c s i e
  honest_turn_lem e i l h =
      opening-turn d n r κ _ _ _ length-honest_t length-honest_z e i
      ∙ el_turns d n r φ (λ i. take (i * d) c) s e i h l
      ∙ element_cong d n φ φ (take (i * d) c) c s i (λ _ _ _ _. refl) (λ j b. el-before d c i j b) e

  pub honest_z_numbers : z_numbers d n r κ o ≡ honest_z 𝓢 𝓓 s
  honest_z_numbers = opening-z_numbers d n r κ _ _ _ length-honest_t length-honest_z

  -- ---- the checks

  test : (u v : (R d).Carrier) → u ≡ v → same d u v ≡ true
  test u v e = (same_iff d u v).1 e

  pub passes₂ : 0 < d → Meets relation s → check₂ d n r L w constant_terms ψ ω 𝓣.p 𝓣.b'' ≡ true
  unfolding check₂ Messages.b''
  passes₂ degree meets =
      true-every five _ (λ k h. eq-eqb _ _ (ap (λ x. x.val)
      (ap (λ u. ct Zq u) (el-elements d five (λ k. value (R d) r n (Messages.second d n r L w constant_terms projections ψ ω k) (part d n s)) k h)
      ∙ ct-second relation s meets w projections ψ ω degree k)))

  pub passes₃ : check₅ d n r κ A c (z_at d n r κ o) (t_at d n r κ o) ≡ true
  unfolding check₅ Messages.z Messages.t times
  passes₃ =
      true-every κ _ (λ k h. test _ _
      (times_cong d n A k _ _ honest_z_lem
      ∙ folded_linear (R d) r n (el d c) (part d n s) (λ y. el d A (k * n + y))
      ∙ sum_cong (R d) r _ _ (λ i l. ap ((R d).mul (el d c i)) (sym (honest_t_lem i k l h)))))

  pub passes₄ : garbage_of_z d n r c (z_at d n r κ o) (mixed_zat d n r κ o) (own_zat d n r κ o) ≡ true
  unfolding garbage_of_z Messages.z turn_element mixed_z earlier_z own_z Messages.g
  passes₄ =
      test _ _
      (inner_cong (R d) n _ _ _ _ honest_z_lem honest_z_lem
      ∙ self_in_turn (R d) r n (el d c) (part d n s)
      ∙ sym (in_turn_cong (R d) r _ _ _ _ (el d c) (el d c) (λ i. honest_turn_lem 2 i (omega arith)) (λ i. honest_turn_lem 3 i (omega arith)) (λ _ _. refl)))

  pub passes₅ : garbage_ofΦ d n r c φ (z_at d n r κ o) (mixedΦat d n r κ o) (ownΦat d n r κ o) ≡ true
  unfolding garbage_ofΦ Messages.z turn_element mixedΦ ownΦ
  passes₅ =
      test _ _
      (sum_cong (R d) r _ _ (λ i _. ap (λ x. (R d).mul x (el d c i)) (inner_cong (R d) n (φ i) (φ i) _ _ (λ k _. refl) honest_z_lem))
      ∙ folded_in_turn (R d) r n (el d c) φ (part d n s)
      ∙ sym (in_turn_cong (R d) r _ _ _ _ (el d c) (el d c) (λ i. honest_turn_lem 0 i (omega arith)) (λ i. honest_turn_lem 1 i (omega arith)) (λ _ _. refl)))

  -- "no a_ij with i < j is other than zero": the sum over pairs is that of its diagonal
  pub passes₆ : Unmixed relation → Meets relation s
      → aggregate_holds d r (bare_aggregate 𝓢 𝓓).a (Messages.aggregate_constant d n r K whole α δ 𝓣.b'') (own_zat d n r κ o) (ownΦat d n r κ o) ≡ true
  unfolding aggregate_holds turn_element own_z ownΦ Messages.g value
  passes₆ unmixed meets =
      test _ _
      (ap₂ (R d).add
      (sum_cong (R d) r _ _ (λ i h. ap ((R d).mul ((bare_aggregate 𝓢 𝓓).a i i)) (honest_turn_lem 3 i (omega arith) h)) ∙ sym diagonal)
      (sum_cong (R d) r _ _ (λ i. honest_turn_lem 1 i (omega arith)))
      ∙ value-aggregate relation s meets w projections ψ ω α δ)
    where
      diagonal : rows (R d) r (λ i j. (R d).mul ((bare_aggregate 𝓢 𝓓).a i j) (inner (R d) n (part d n s i) (part d n s j)))
          ≡ sum (R d) r (λ i. (R d).mul ((bare_aggregate 𝓢 𝓓).a i i) (inner (R d) n (part d n s i) (part d n s i)))
      diagonal =
          rows_diagonal (R d) r _ (λ i j h l. ap (λ x. (R d).mul x (inner (R d) n (part d n s i) (part d n s j))) (aggregate-unmixed 𝓢 𝓓 unmixed i j h l)
          ∙ zero-mul (R d) _)

  pub states₇ : z_short z_bound (z_numbers d n r κ o) ≡ leb (norm_sq (honest_z 𝓢 𝓓 s)) z_bound
  unfolding z_short
  states₇ = ap (λ (xs : List ℤ). leb (norm_sq xs) z_bound) honest_z_numbers
