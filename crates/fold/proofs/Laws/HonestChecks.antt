-- The honest messages pass checks 2 to 8, and check 9 asks for the squared length of the whole opening.
--     Shaped                    what is used of the sizes
--     honest_z_lem .. honest_h_lem  the honest digits recompose to the folded vector, the inner commitments and the garbage
--     passes₂ .. passes₈        the checks
use Rattle.std.specs.Prelude.{◌≡◌, refl, true, List, ℕ, ◌+◌, ◌*◌, ◌≤◌, ◌<◌, length, ℤ}
use Rattle.std.proofs.Math.Path.{sym, ap}
use Rattle.std.proofs.Common.{ap₂, ◌∙◌, arith}
use Rattle.std.proofs.Math.Dec.{leb}
use borrow.Author.Tests.{eq-eqb}
use Rattle.integers.specs.Sums.{norm_sq}
use Rattle.algebra.specs.Laws.SumLaws.{sum_cong}
use Rattle.algebra.specs.Laws.TriangleLaws.{rows_cong}
use Rattle.algebra.specs.Conjugation.{ct}
use Rattle.algebra.specs.DotProduct.{value}
use Rattle.algebra.specs.Laws.DotProductLaws.{inner_cong}
use Rattle.algebra.proofs.Laws.MixedLaws.{mixed_cong}
use Rattle.algebra.proofs.Laws.FoldLaws.{folded_linear, folded_self, folded-garbage, value-garbage}
use Rattle.residues.specs.Modulus.{Zq}
use Rattle.ring.specs.Element.{R, el, same}
use Rattle.ring.specs.Laws.ElementEquality.{true-every, same_iff}
use Rattle.fold.specs.Sizes.{t_size, garbage_size}
use Rattle.fold.specs.Statement.{Meets, part}
use Rattle.fold.specs.Messages as Messages
use Rattle.fold.specs.Messages.{times, outer₁, outer₂, half}
use Rattle.fold.specs.Sizes.{five}
use Rattle.fold.proofs.Laws.MessageLaws.{el-elements, length-z_digits, length-t_digits, length-g_digits, length-h_digits}
use Rattle.fold.proofs.Laws.MessageLaws.{z_of_digits, t_of-digits, garbage_of-digits}
use Rattle.fold.proofs.Laws.ReadingLaws.{z_of_cong, t_of_cong, garbage_of_cong, times_cong, outer₁_cong, outer₂_cong}
use Rattle.fold.proofs.Laws.OpeningLaws.{opening-z, opening-t, opening-g, opening-h, length-opening, digits-length}
use Rattle.fold.proofs.Laws.AggregateLaws.{half_law, ct-second, value-aggregate}
use Rattle.fold.specs.Statement.{Statement, Draws, Transcript}
use Rattle.fold.specs.Verdict.{t_block, g_block, h_block, zᵒ, tᵒ, gᵒ, hᵒ}
use Rattle.fold.specs.Verdict.{check₂, check₃, check₄, check₅, check₆, check₇, check₈, check₉}
use Rattle.fold.specs.Opening.{digits_length}
use Rattle.fold.specs.Honest.{honest_t, honest_g, honest_h, honest_transcript, honest_opening}

-- some coefficient, bases from 2 on, some digits
pub record Shaped (𝓢 : Statement) : Type 0 where
  pub degree : 0 < 𝓢.relation.d
  pub base : 2 ≤ 𝓢.b
  pub base₁ : 2 ≤ 𝓢.b₁
  pub base₂ : 2 ≤ 𝓢.b₂
  pub digits : 0 < 𝓢.tz
  pub digits₁ : 0 < 𝓢.t₁
  pub digits₂ : 0 < 𝓢.t₂

module _ (𝓢 : Statement) (𝓓 : Draws) (s : List ℤ) where
  open 𝓢 use {relation, w, tz, κ, κ₁, κ₂, b, b₁, b₂, t₁, t₂, target, A, B, C, D}
  open relation use {d, n, r, K, L, whole, constant_terms}
  open 𝓓 use {projections, ψ, ω, α, δ, c}

  abbrev o : List ℤ
  o = honest_opening 𝓢 𝓓 s

  abbrev 𝓣 : Transcript
  𝓣 = honest_transcript 𝓢 𝓓 s

  abbrev φ : ℕ → ℕ → (R d).Carrier
  φ = (Messages.aggregated 𝓢 𝓓).φ

  -- ---- lengths

  pub length-honest_z : length (Messages.z_digits d n r tz b c s) ≡ tz * n * d
  length-honest_z = length-z_digits d n r tz b c s

  pub length-honest_t : length (honest_t 𝓢 𝓓 s) ≡ t_size r κ t₁ * d
  length-honest_t = length-t_digits d n r κ b₁ t₁ A s

  pub length-honest_g : length (honest_g 𝓢 𝓓 s) ≡ garbage_size r t₂ * d
  length-honest_g = length-g_digits d n r b₂ t₂ s

  pub length-honest_h : length (honest_h 𝓢 𝓓 s) ≡ garbage_size r t₁ * d
  length-honest_h = length-h_digits d n r b₁ t₁ φ s

  -- ---- the blocks of the opening

  pub honest_z-block : (y : ℕ) → y < tz * n → el d o y ≡ el d (Messages.z_digits d n r tz b c s) y
  honest_z-block = opening-z d n r tz κ t₁ t₂ _ _ _ _ length-honest_z length-honest_t length-honest_g length-honest_h

  pub honest_t-block : (y : ℕ) → y < t_size r κ t₁ → t_block 𝓢 𝓓 𝓣 o y ≡ el d (honest_t 𝓢 𝓓 s) y
  honest_t-block = opening-t d n r tz κ t₁ t₂ _ _ _ _ length-honest_z length-honest_t length-honest_g length-honest_h

  pub honest_g-block : (y : ℕ) → y < garbage_size r t₂ → g_block 𝓢 𝓓 𝓣 o y ≡ el d (honest_g 𝓢 𝓓 s) y
  honest_g-block = opening-g d n r tz κ t₁ t₂ _ _ _ _ length-honest_z length-honest_t length-honest_g length-honest_h

  pub honest_h-block : (y : ℕ) → h_block 𝓢 𝓓 𝓣 o y ≡ el d (honest_h 𝓢 𝓓 s) y
  honest_h-block = opening-h d n r tz κ t₁ t₂ _ _ _ _ length-honest_z length-honest_t length-honest_g length-honest_h

  pub honest_length : digits_length d n r tz κ t₁ t₂ o ≡ norm_sq o
  honest_length =
      digits-length d n r tz κ t₁ t₂ o (length-opening d n r tz κ t₁ t₂ _ _ _ _ length-honest_z length-honest_t length-honest_g length-honest_h)

  -- ---- what they recompose to

  module _ (sizes : Shaped 𝓢) where
    pub honest_z_lem : (k : ℕ) → k < n → zᵒ 𝓢 𝓓 𝓣 o k ≡ Messages.z d n r c s k
    honest_z_lem k h =
        z_of_cong d n tz b _ _ honest_z-block k h ∙ z_of_digits d n r tz b c s sizes.base sizes.digits k h

    pub honest_t_lem : (i k : ℕ) → i < r → k < κ → tᵒ 𝓢 𝓓 𝓣 o i k ≡ Messages.t d n A s i k
    honest_t_lem i k h l =
        t_of_cong d r κ b₁ t₁ _ _ honest_t-block i k h l ∙ t_of-digits d n r κ b₁ t₁ A s sizes.base₁ sizes.digits₁ i k h l

    pub honest_g_lem : (i j : ℕ) → i ≤ j → j < r → gᵒ 𝓢 𝓓 𝓣 o i j ≡ Messages.g d n s i j
    unfolding Messages.g_digits
    honest_g_lem i j h l =
        garbage_of_cong d r b₂ t₂ _ _ honest_g-block i j h l
        ∙ garbage_of-digits d r b₂ t₂ (Messages.g d n s) sizes.base₂ sizes.digits₂ i j h l

    pub honest_h_lem : (i j : ℕ) → i ≤ j → j < r → hᵒ 𝓢 𝓓 𝓣 o i j ≡ Messages.h d n φ s i j
    unfolding Messages.h_digits
    honest_h_lem i j h l =
        garbage_of_cong d r b₁ t₁ _ _ (λ y _. honest_h-block y) i j h l
        ∙ garbage_of-digits d r b₁ t₁ (Messages.h d n φ s) sizes.base₁ sizes.digits₁ i j h l

    -- ---- the checks

    test : (u v : (R d).Carrier) → u ≡ v → same d u v ≡ true
    test u v e = (same_iff d u v).1 e

    pub passes₂ : Meets relation s → check₂ d n r L w constant_terms ψ ω 𝓣.p 𝓣.b'' ≡ true
    unfolding check₂ Messages.b''
    passes₂ meets =
        true-every five _ (λ k h. eq-eqb _ _ (ap (λ x. x.val)
        (ap (λ u. ct Zq u) (el-elements d five (λ k. value (R d) r n (Messages.second d n r L w constant_terms projections ψ ω k) (part d n s)) k h)
        ∙ ct-second relation s meets w projections ψ ω sizes.degree k)))

    pub passes₃ : check₃ d r κ κ₁ t₁ t₂ B C 𝓣.u₁ (t_block 𝓢 𝓓 𝓣 o) (g_block 𝓢 𝓓 𝓣 o) ≡ true
    unfolding check₃ Messages.u₁
    passes₃ =
        true-every κ₁ _ (λ k h. test _ _
        (el-elements d κ₁ (λ k. outer₁ d r κ t₁ t₂ B C k (el d (honest_t 𝓢 𝓓 s)) (el d (honest_g 𝓢 𝓓 s))) k h
        ∙ sym (outer₁_cong d r κ t₁ t₂ B C k _ _ _ _ honest_t-block honest_g-block)))

    pub passes₄ : check₄ d r κ₂ t₁ D 𝓣.u₂ (h_block 𝓢 𝓓 𝓣 o) ≡ true
    unfolding check₄ Messages.u₂
    passes₄ =
        true-every κ₂ _ (λ k h. test _ _
        (el-elements d κ₂ (λ k. outer₂ d r t₁ D k (el d (honest_h 𝓢 𝓓 s))) k h
        ∙ sym (outer₂_cong d r t₁ D k _ _ (λ y _. honest_h-block y))))

    pub passes₅ : check₅ d n r κ A c (zᵒ 𝓢 𝓓 𝓣 o) (tᵒ 𝓢 𝓓 𝓣 o) ≡ true
    unfolding check₅ Messages.z Messages.t times
    passes₅ =
        true-every κ _ (λ k h. test _ _
        (times_cong d n A k _ _ honest_z_lem
        ∙ folded_linear (R d) r n (el d c) (part d n s) (λ y. el d A (k * n + y))
        ∙ sum_cong (R d) r _ _ (λ i l. ap ((R d).mul (el d c i)) (sym (honest_t_lem i k l h)))))

    pub passes₆ : check₆ d n r c (zᵒ 𝓢 𝓓 𝓣 o) (gᵒ 𝓢 𝓓 𝓣 o) ≡ true
    unfolding check₆ Messages.z Messages.g
    passes₆ =
        test _ _
        (inner_cong (R d) n _ _ _ _ honest_z_lem honest_z_lem
        ∙ folded_self (R d) r n (el d c) (part d n s)
        ∙ sym (mixed_cong (R d) r _ _ (el d c) (el d c) honest_g_lem (λ i _. refl)))

    pub passes₇ : check₇ d n r c φ (zᵒ 𝓢 𝓓 𝓣 o) (hᵒ 𝓢 𝓓 𝓣 o) ≡ true
    unfolding check₇ Messages.z Messages.h
    passes₇ =
        test _ _
        (sum_cong (R d) r _ _ (λ i _. ap (λ x. (R d).mul x (el d c i)) (inner_cong (R d) n (φ i) (φ i) _ _ (λ k _. refl) honest_z_lem))
        ∙ folded-garbage (R d) (half d) (half_law d) r n (el d c) φ (part d n s)
        ∙ sym (mixed_cong (R d) r _ _ (el d c) (el d c) honest_h_lem (λ i _. refl)))

    pub passes₈ : Meets relation s
        → check₈ d r (Messages.aggregated 𝓢 𝓓).a (Messages.aggregate_constant d n r K whole α δ 𝓣.b'') (gᵒ 𝓢 𝓓 𝓣 o) (hᵒ 𝓢 𝓓 𝓣 o) ≡ true
    unfolding check₈ Messages.g Messages.h
    passes₈ meets =
        test _ _
        (ap₂ (R d).add
        (rows_cong (R d) r _ _ (λ i j l h. ap ((R d).mul ((Messages.aggregated 𝓢 𝓓).a i j)) (honest_g_lem i j l h)))
        (sum_cong (R d) r _ _ (λ i l. honest_h_lem i i (omega arith) l))
        ∙ value-garbage (R d) (half d) (half_law d) r n (Messages.aggregated 𝓢 𝓓).a φ (part d n s)
        ∙ value-aggregate relation s meets w projections ψ ω α δ)

  pub states₉ : check₉ d n r tz κ t₁ t₂ target o ≡ leb (norm_sq o) target
  unfolding check₉
  states₉ = ap (λ x. leb x target) honest_length
