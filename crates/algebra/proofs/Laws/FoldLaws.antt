-- What the folded vector z = Σ c_i s_i satisfies over a commutative ring: checks 5 to 8 of SPECIFICATION 6.
--     mixed-..           the form Σ g_ii c_i² + 2 Σ_{i<j} g_ij c_i c_j in the challenges c
--     folded-..          checks 5, 6 and 7
--     value-garbage      check 8
--     sum_one_differs    two combinations whose challenges differ at one place, as two openings give them
-- Checks 7 and 8 take the ring's 1/2 as `half`, with 2 · half = 1.
use Rattle.std.specs.Prelude.{ℕ, ◌<◌, ◌≡◌, refl, ◌≢◌}
use Rattle.std.proofs.Math.Path.{sym, ap, ap₂}
use Rattle.std.proofs.Common.{◌∙◌}
use Rattle.algebra.specs.CommRing.{CommRing}
use Rattle.algebra.specs.Laws.RingLaws.{add-mul, one-mul, zero-mul}
use Rattle.algebra.specs.Sum.{sum}
use Rattle.algebra.specs.Laws.SumLaws.{sum_cong, sum-add, mul-sum, sum-neg, sum-single}
use Rattle.algebra.specs.Triangle.{rows}
use Rattle.algebra.specs.Laws.TriangleLaws.{rows-square, below_cong, below-mul}
use Rattle.algebra.specs.Laws.Solver.{◌:+◌, ◌:-◌, ◌:*◌, num, solve1, solve2, solve3}
use Rattle.algebra.specs.DotProduct.{inner, value, mixed, folded, garbage}
use Rattle.algebra.specs.Laws.DotProductLaws.{inner_comm, inner-scale-right, inner-sum-right}

module _ (𝓡 : CommRing) where
  infixl 65 ◌⊕◌
  infixl 70 ◌⊗◌
  infix 75 ⊖◌
  open 𝓡 use {Carrier as C, one as 𝟙, add as ◌⊕◌, mul as ◌⊗◌, neg as ⊖◌}
  open 𝓡 use {add_comm, add-neg, mul_assoc, mul_comm}

  -- ---- quadratic forms in the challenges

  -- a full square is such a form in the mean of its two halves
  pub mixed-square : (r : ℕ) (f g : ℕ → ℕ → C) (c : ℕ → C)
      → ((i : ℕ) → f i i ≡ g i i) → ((i j : ℕ) → f i j ⊕ f j i ≡ (𝟙 ⊕ 𝟙) ⊗ g i j)
      → sum 𝓡 r (λ i. sum 𝓡 r (λ j. f i j ⊗ (c i ⊗ c j))) ≡ mixed 𝓡 r g c
  unfolding mixed
  mixed-square r f g c e h =
      rows-square 𝓡 r (λ i j. f i j ⊗ (c i ⊗ c j))
      ∙ ap₂ ◌⊕◌
      (sum_cong 𝓡 r _ _ (λ i _. ap (λ x. x ⊗ (c i ⊗ c i)) (e i)))
      (below_cong 𝓡 r _ _ (λ i j _ _. both i j) ∙ sym (below-mul 𝓡 r (𝟙 ⊕ 𝟙) (λ i j. g i j ⊗ (c i ⊗ c j))))
    where
      both : (i j : ℕ) → f i j ⊗ (c i ⊗ c j) ⊕ f j i ⊗ (c j ⊗ c i) ≡ (𝟙 ⊕ 𝟙) ⊗ (g i j ⊗ (c i ⊗ c j))
      both i j =
          ap (λ x. f i j ⊗ (c i ⊗ c j) ⊕ f j i ⊗ x) (mul_comm (c j) (c i))
          ∙ sym (add-mul 𝓡 (f i j) (f j i) (c i ⊗ c j))
          ∙ ap (λ x. x ⊗ (c i ⊗ c j)) (h i j)
          ∙ mul_assoc (𝟙 ⊕ 𝟙) (g i j) (c i ⊗ c j)

  -- ---- the folded vector

  -- check 5: A z = Σ c_i t_i, for each row u of A
  pub folded_linear : (r n : ℕ) (c : ℕ → C) (s : ℕ → ℕ → C) (u : ℕ → C)
      → inner 𝓡 n u (folded 𝓡 r c s) ≡ sum 𝓡 r (λ i. c i ⊗ inner 𝓡 n u (s i))
  unfolding folded
  folded_linear r n c s u =
      inner-sum-right 𝓡 n r u (λ i k. c i ⊗ s i k) ∙ sum_cong 𝓡 r _ _ (λ i _. inner-scale-right 𝓡 n (c i) u (s i))

  -- check 7 before its symmetric form: Σ <φ_i, z> c_i as a full square
  pub folded-square : (r n : ℕ) (c : ℕ → C) (φ s : ℕ → ℕ → C)
      → sum 𝓡 r (λ i. inner 𝓡 n (φ i) (folded 𝓡 r c s) ⊗ c i) ≡ sum 𝓡 r (λ i. sum 𝓡 r (λ j. inner 𝓡 n (φ i) (s j) ⊗ (c i ⊗ c j)))
  folded-square r n c φ s = sum_cong 𝓡 r _ _ (λ i _. row i)
    where
      row : (i : ℕ) → inner 𝓡 n (φ i) (folded 𝓡 r c s) ⊗ c i ≡ sum 𝓡 r (λ j. inner 𝓡 n (φ i) (s j) ⊗ (c i ⊗ c j))
      row i =
          ap (λ x. x ⊗ c i) (folded_linear r n c s (φ i))
          ∙ mul-sum 𝓡 r (c i) (λ j. c j ⊗ inner 𝓡 n (φ i) (s j))
          ∙ sum_cong 𝓡 r _ _
          (λ j _. solve3 𝓡 (λ x y z. y :* x :* z) (λ x y z. x :* (z :* y)) tt (inner 𝓡 n (φ i) (s j)) (c j) (c i))

  -- check 6: <z, z> = Σ g_ii c_i² + 2 Σ_{i<j} g_ij c_i c_j with g_ij = <s_i, s_j>
  pub folded_self : (r n : ℕ) (c : ℕ → C) (s : ℕ → ℕ → C)
      → inner 𝓡 n (folded 𝓡 r c s) (folded 𝓡 r c s) ≡ mixed 𝓡 r (λ i j. inner 𝓡 n (s i) (s j)) c
  folded_self r n c s =
      folded_linear r n c s z
      ∙ sum_cong 𝓡 r _ _ (λ i _. ap (λ x. c i ⊗ x) (inner_comm 𝓡 n z (s i)) ∙ mul_comm (c i) (inner 𝓡 n (s i) z))
      ∙ folded-square r n c s s
      ∙ mixed-square r g g c (λ i. refl) (λ i j. ap (λ x. g i j ⊕ x) (inner_comm 𝓡 n (s j) (s i)) ∙ double (g i j))
    where
      z : ℕ → C
      z = folded 𝓡 r c s

      g : ℕ → ℕ → C
      g i j = inner 𝓡 n (s i) (s j)

      double : (x : C) → x ⊕ x ≡ (𝟙 ⊕ 𝟙) ⊗ x
      double x = solve1 𝓡 (λ x. x :+ x) (λ x. num 2 :* x) tt x

  module _ (half : C) (two-half : (𝟙 ⊕ 𝟙) ⊗ half ≡ 𝟙) where
    pub garbage-twice : (n : ℕ) (φ s : ℕ → ℕ → C) (i j : ℕ)
        → inner 𝓡 n (φ i) (s j) ⊕ inner 𝓡 n (φ j) (s i) ≡ (𝟙 ⊕ 𝟙) ⊗ garbage 𝓡 half n φ s i j
    unfolding garbage
    garbage-twice n φ s i j =
        let x = inner 𝓡 n (φ i) (s j) ⊕ inner 𝓡 n (φ j) (s i) in
        sym (ap (λ y. y ⊗ x) two-half ∙ one-mul 𝓡 x) ∙ mul_assoc (𝟙 ⊕ 𝟙) half x

    pub garbage_diagonal : (n : ℕ) (φ s : ℕ → ℕ → C) (i : ℕ) → garbage 𝓡 half n φ s i i ≡ inner 𝓡 n (φ i) (s i)
    unfolding garbage
    garbage_diagonal n φ s i =
        let x = inner 𝓡 n (φ i) (s i) in
        solve2 𝓡 (λ h x. h :* (x :+ x)) (λ h x. num 2 :* h :* x) tt half x ∙ ap (λ y. y ⊗ x) two-half ∙ one-mul 𝓡 x

    -- check 7: Σ <φ_i, z> c_i = Σ h_ii c_i² + 2 Σ_{i<j} h_ij c_i c_j
    pub folded-garbage : (r n : ℕ) (c : ℕ → C) (φ s : ℕ → ℕ → C)
        → sum 𝓡 r (λ i. inner 𝓡 n (φ i) (folded 𝓡 r c s) ⊗ c i) ≡ mixed 𝓡 r (garbage 𝓡 half n φ s) c
    folded-garbage r n c φ s =
        folded-square r n c φ s
        ∙ mixed-square r (λ i j. inner 𝓡 n (φ i) (s j)) (garbage 𝓡 half n φ s) c
        (λ i. sym (garbage_diagonal n φ s i)) (garbage-twice n φ s)

    -- check 8: Σ a_ij g_ij + Σ h_ii is the function's value
    pub value-garbage : (r n : ℕ) (a φ s : ℕ → ℕ → C)
        → rows 𝓡 r (λ i j. a i j ⊗ inner 𝓡 n (s i) (s j)) ⊕ sum 𝓡 r (λ i. garbage 𝓡 half n φ s i i)
        ≡ value 𝓡 r n (record { a = a; φ = φ }) s
    unfolding value
    value-garbage r n a φ s =
        ap (λ x. rows 𝓡 r (λ i j. a i j ⊗ inner 𝓡 n (s i) (s j)) ⊕ x) (sum_cong 𝓡 r _ _ (λ i _. garbage_diagonal n φ s i))

  -- ---- two openings

  -- two combinations whose challenges agree but for the i-th
  pub sum_one_differs : (r i : ℕ) (c c' t : ℕ → C) → i < r → ((j : ℕ) → j < r → j ≢ i → c j ≡ c' j)
      → sum 𝓡 r (λ j. c j ⊗ t j) ⊕ ⊖ sum 𝓡 r (λ j. c' j ⊗ t j) ≡ (c i ⊕ ⊖ c' i) ⊗ t i
  sum_one_differs r i c c' t l e =
      ap (λ x. sum 𝓡 r (λ j. c j ⊗ t j) ⊕ x) (sum-neg 𝓡 r (λ j. c' j ⊗ t j))
      ∙ sym (sum-add 𝓡 r (λ j. c j ⊗ t j) (λ j. ⊖ (c' j ⊗ t j)))
      ∙ sum_cong 𝓡 r _ _ (λ j _. solve3 𝓡 (λ x y z. x :* z :- y :* z) (λ x y z. (x :- y) :* z) tt (c j) (c' j) (t j))
      ∙ sum-single 𝓡 r i (λ j. (c j ⊕ ⊖ c' j) ⊗ t j) l
      (λ j h d. rw (e j h d, add-neg (c' j)) (zero-mul 𝓡 (t j)))
