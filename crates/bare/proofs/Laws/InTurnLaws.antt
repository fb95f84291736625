-- Garbage in turn over a commutative ring: what the folded vector z = Σ c_i s_i satisfies where turn i knows c_1..c_(i-1) alone. Checks 4, 5 and 6 of
-- SPECIFICATION 14.7.
--     in_turn_cong       what stands "in turn" depends on what it reads
--     folded_in_turn     Σ<φ_i,z>c_i is that sum over the mixed φ and the own φ
--     self_in_turn       <z,z> is that sum over the mixed z and the own z
--     rows_diagonal      a sum over pairs whose mixed entries are zero is that of its diagonal
use Prim.Native.Nat.{ℕ, ◌<◌}
use Rattle.std.specs.Prelude.{◌≡◌, refl}
use Rattle.std.proofs.Math.Path.{sym, ap, ap₂}
use Rattle.std.proofs.Common.{◌∙◌}
use Rattle.algebra.specs.CommRing.{CommRing}
use Rattle.algebra.specs.Laws.RingLaws.{add-mul}
use Rattle.algebra.specs.Sum.{sum}
use Rattle.algebra.specs.Laws.SumLaws.{sum_cong, sum-add, sum_vanish, mul-sum}
use Rattle.algebra.specs.Triangle.{rows, below}
use Rattle.algebra.specs.Laws.TriangleLaws.{rows-below, rows-square}
use Rattle.algebra.specs.Laws.Solver.{◌:+◌, ◌:*◌, solve4}
use Rattle.algebra.specs.DotProduct.{inner, folded}
use Rattle.algebra.specs.Laws.DotProductLaws.{inner_comm}
use Rattle.algebra.proofs.Laws.FoldLaws.{folded_linear, folded-square}
use Rattle.bare.specs.Verdict.{in_turn}

module _ (𝓡 : CommRing) where
  infixl 65 ◌⊕◌
  infixl 70 ◌⊗◌
  open 𝓡 use {Carrier as C, zero as 𝟘, add as ◌⊕◌, mul as ◌⊗◌}
  open 𝓡 use {add_comm, add-zero, mul_comm}

  pub in_turn_cong : (r : ℕ) (mixed mixed' own own' c c' : ℕ → C)
      → ((i : ℕ) → i < r → mixed i ≡ mixed' i) → ((i : ℕ) → i < r → own i ≡ own' i) → ((i : ℕ) → i < r → c i ≡ c' i)
      → in_turn 𝓡 r mixed own c ≡ in_turn 𝓡 r mixed' own' c'
  unfolding in_turn
  in_turn_cong r mixed mixed' own own' c c' e h k =
      sum_cong 𝓡 r _ _ (λ i l. ap₂ ◌⊕◌ (ap₂ ◌⊗◌ (e i l) (k i l)) (ap₂ ◌⊗◌ (h i l) (ap₂ ◌⊗◌ (k i l) (k i l))))

  -- a full square, one turn after the other
  square_in_turn : (r : ℕ) (f : ℕ → ℕ → C) (c : ℕ → C)
      → sum 𝓡 r (λ i. sum 𝓡 r (λ j. f i j ⊗ (c i ⊗ c j))) ≡ in_turn 𝓡 r (λ i. sum 𝓡 i (λ j. (f j i ⊕ f i j) ⊗ c j)) (λ i. f i i) c
  unfolding in_turn below
  square_in_turn r f c =
      rows-square 𝓡 r square
      ∙ add_comm (sum 𝓡 r (λ i. square i i)) (sum 𝓡 r (λ i. sum 𝓡 i (λ j. square j i ⊕ square i j)))
      ∙ ap (λ x. x ⊕ sum 𝓡 r (λ i. square i i)) (sum_cong 𝓡 r _ _ (λ i _. sym (turn i)))
      ∙ sym (sum-add 𝓡 r (λ i. sum 𝓡 i (λ j. (f j i ⊕ f i j) ⊗ c j) ⊗ c i) (λ i. square i i))
    where
      square : ℕ → ℕ → C
      square i j = f i j ⊗ (c i ⊗ c j)

      both : (x y a b : C) → (x ⊕ y) ⊗ a ⊗ b ≡ x ⊗ (a ⊗ b) ⊕ y ⊗ (b ⊗ a)
      both = solve4 𝓡 (λ x y a b. (x :+ y) :* a :* b) (λ x y a b. x :* (a :* b) :+ y :* (b :* a)) tt

      turn : (i : ℕ) → sum 𝓡 i (λ j. (f j i ⊕ f i j) ⊗ c j) ⊗ c i ≡ sum 𝓡 i (λ j. square j i ⊕ square i j)
      turn i =
          mul-sum 𝓡 i (c i) (λ j. (f j i ⊕ f i j) ⊗ c j) ∙ sum_cong 𝓡 i _ _ (λ j _. both (f j i) (f i j) (c j) (c i))

  -- check 5
  pub folded_in_turn : (r n : ℕ) (c : ℕ → C) (φ s : ℕ → ℕ → C)
      → sum 𝓡 r (λ i. inner 𝓡 n (φ i) (folded 𝓡 r c s) ⊗ c i)
      ≡ in_turn 𝓡 r (λ i. sum 𝓡 i (λ j. (inner 𝓡 n (φ j) (s i) ⊕ inner 𝓡 n (φ i) (s j)) ⊗ c j)) (λ i. inner 𝓡 n (φ i) (s i)) c
  folded_in_turn r n c φ s = folded-square 𝓡 r n c φ s ∙ square_in_turn r (λ i j. inner 𝓡 n (φ i) (s j)) c

  -- check 4
  pub self_in_turn : (r n : ℕ) (c : ℕ → C) (s : ℕ → ℕ → C)
      → inner 𝓡 n (folded 𝓡 r c s) (folded 𝓡 r c s)
      ≡ in_turn 𝓡 r (λ i. sum 𝓡 i (λ j. inner 𝓡 n (s i) (s j) ⊗ c j) ⊕ sum 𝓡 i (λ j. inner 𝓡 n (s i) (s j) ⊗ c j)) (λ i. inner 𝓡 n (s i) (s i)) c
  self_in_turn r n c s =
      folded_linear 𝓡 r n c s z
      ∙ sum_cong 𝓡 r _ _ (λ i _. ap (λ x. c i ⊗ x) (inner_comm 𝓡 n z (s i)) ∙ mul_comm (c i) (inner 𝓡 n (s i) z))
      ∙ folded_in_turn r n c s s
      ∙ in_turn_cong r _ _ _ _ c c (λ i _. double i) (λ i _. refl) (λ i _. refl)
    where
      z : ℕ → C
      z = folded 𝓡 r c s

      g : ℕ → ℕ → C
      g i j = inner 𝓡 n (s i) (s j)

      double : (i : ℕ) → sum 𝓡 i (λ j. (g j i ⊕ g i j) ⊗ c j) ≡ sum 𝓡 i (λ j. g i j ⊗ c j) ⊕ sum 𝓡 i (λ j. g i j ⊗ c j)
      double i =
          sum_cong 𝓡 i _ _ (λ j _. ap (λ x. (x ⊕ g i j) ⊗ c j) (inner_comm 𝓡 n (s j) (s i)) ∙ add-mul 𝓡 (g i j) (g i j) (c j))
          ∙ sum-add 𝓡 i (λ j. g i j ⊗ c j) (λ j. g i j ⊗ c j)

  -- check 6
  pub rows_diagonal : (r : ℕ) (f : ℕ → ℕ → C) → ((i j : ℕ) → i < j → j < r → f i j ≡ 𝟘) → rows 𝓡 r f ≡ sum 𝓡 r (λ i. f i i)
  unfolding below
  rows_diagonal r f e =
      rows-below 𝓡 r f
      ∙ ap (λ x. sum 𝓡 r (λ i. f i i) ⊕ x) (sum_vanish 𝓡 r _ (λ j l. sum_vanish 𝓡 j _ (λ i h. e i j h l)))
      ∙ add-zero (sum 𝓡 r (λ i. f i i))
