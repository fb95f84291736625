-- What the tables of the next instance's constraints sum to, in any commutative ring: β are the powers of a base, x the entries of a block.
--     dot-digits, dot-parts, dot_triangle     the blocks of z, of t, and of g or h
--     rows-mixed .. inner-aggregate           their sums in the words of checks 5 to 8
use Rattle.std.specs.Prelude.{◌≡◌, refl, Bool, List, ◌++◌, ℕ, zero, ◌+◌, ◌-◌, ◌*◌, ◌<◌, eqb, length}
use Rattle.std.proofs.Math.Path.{sym, ap, ap₂}
use Rattle.std.proofs.Common.{◌∙◌, eq-eqb, ne_eqb}
use Rattle.std.proofs.Math.Bool.{cond}
use Rattle.std.proofs.Math.Nat.{add-sub_cancel_left}
use native.Mathlib.Omega.{arith}
use Rattle.integers.specs.Lists.{tab}
use Rattle.integers.specs.Laws.ListLaws.{length-tab}
use Rattle.integers.specs.Flat.{flat}
use Rattle.integers.specs.Laws.FlatLaws.{length-flat}
use Rattle.algebra.specs.CommRing.{CommRing}
use Rattle.algebra.specs.Laws.RingLaws.{zero-mul, one-mul, neg-mul}
use Rattle.algebra.specs.Sum.{sum}
use Rattle.algebra.specs.Laws.SumLaws.{sum_cong, sum-zero, sum-mul, sum-neg, sum-single}
use Rattle.algebra.specs.Triangle.{start, pair, pairs-count, rows, below}
use Rattle.algebra.specs.Laws.TriangleLaws.{rows_cong, rows-below, below_cong, below-mul}
use Rattle.algebra.specs.Laws.Tables.{dot, dot-append, dot-tab, dot-flat, dot-flat-start, length-flat-start}
use Rattle.algebra.specs.DotProduct.{inner, folded, mixed}
use Rattle.algebra.specs.Laws.DotProductLaws.{inner_cong, inner-scale-left, inner-sum-left}
use Rattle.algebra.proofs.Laws.FoldLaws.{folded_linear}
use Rattle.algebra.specs.Laws.Solver.{◌:*◌, solve3}
use Rattle.fold.specs.Laws.ChunkLaws.{start-scale}

-- ---- lengths

module _ {A : Type 0} where
  pub length_digits : (t n : ℕ) (f : ℕ → ℕ → A) → length (flat t (λ e. tab n (f e))) ≡ t * n
  length_digits t n f = length-flat t n _ (λ e _. length-tab n (f e))

  pub length-parts : (r t κ : ℕ) (f : ℕ → ℕ → ℕ → A) → length (flat r (λ i. flat t (λ e. tab κ (f i e)))) ≡ r * (t * κ)
  length-parts r t κ f = length-flat r (t * κ) _ (λ i _. length_digits t κ (f i))

  row-length : (r t : ℕ) (f : ℕ → ℕ → ℕ → A) (i : ℕ) → i < r → length (flat (r - i) (λ k. tab t (f i (i + k)))) ≡ (r - i) * t
  row-length r t f i _ = length_digits (r - i) t (λ k. f i (i + k))

  pub length_triangle : (r t : ℕ) (f : ℕ → ℕ → ℕ → A) → length (flat r (λ i. flat (r - i) (λ k. tab t (f i (i + k))))) ≡ pairs-count r * t
  unfolding pairs-count
  length_triangle r t f = length-flat-start r (λ i. (r - i) * t) _ (row-length r t f) ∙ start-scale (λ i. r - i) t r

module _ (𝓡 : CommRing) where
  infixl 65 ◌⊕◌
  infixl 70 ◌⊗◌
  infix 75 ⊖◌
  open 𝓡 use {Carrier as C, zero as 𝟘, one as 𝟙, add as ◌⊕◌, mul as ◌⊗◌, neg as ⊖◌}
  open 𝓡 use {add-zero, mul_assoc, mul_comm}

  -- ---- the blocks

  -- a table of two blocks, the first of a entries
  pub dot-two : (xs ys : List C) (a : ℕ) (x : ℕ → C) → length xs ≡ a → dot 𝓡 (xs ++ ys) x ≡ dot 𝓡 xs x ⊕ dot 𝓡 ys (λ p. x (a + p))
  dot-two xs ys a x e = dot-append 𝓡 xs ys x ∙ ap (λ n. dot 𝓡 xs x ⊕ dot 𝓡 ys (λ p. x (n + p))) e

  pub dot-digits : (t n : ℕ) (β f x : ℕ → C)
      → dot 𝓡 (flat t (λ e. tab n (λ k. β e ⊗ f k))) x ≡ inner 𝓡 n f (λ k. sum 𝓡 t (λ e. β e ⊗ x (e * n + k)))
  unfolding folded
  dot-digits t n β f x =
      dot-flat 𝓡 t n _ x (λ e _. length-tab n (λ k. β e ⊗ f k))
      ∙ sum_cong 𝓡 t _ _ (λ e _.
      dot-tab 𝓡 n (λ k. β e ⊗ f k) (λ k. x (e * n + k)) ∙ inner-scale-left 𝓡 n (β e) f (λ k. x (e * n + k)))
      ∙ sym (folded_linear 𝓡 t n β (λ e k. x (e * n + k)) f)

  pub dot-parts : (r t κ : ℕ) (f : ℕ → ℕ → ℕ → C) (x : ℕ → C)
      → dot 𝓡 (flat r (λ i. flat t (λ e. tab κ (λ k. f i e k)))) x
      ≡ sum 𝓡 r (λ i. sum 𝓡 t (λ e. sum 𝓡 κ (λ k. f i e k ⊗ x ((i * t + e) * κ + k))))
  unfolding inner
  dot-parts r t κ f x =
      dot-flat 𝓡 r (t * κ) _ x (λ i _. length_digits t κ (f i))
      ∙ sum_cong 𝓡 r _ _ (λ i _.
      dot-flat 𝓡 t κ _ (λ p. x (i * (t * κ) + p)) (λ e _. length-tab κ (f i e))
      ∙ sum_cong 𝓡 t _ _ (λ e _.
      dot-tab 𝓡 κ (f i e) (λ p. x (i * (t * κ) + (e * κ + p)))
      ∙ sum_cong 𝓡 κ _ _ (λ k _. ap (λ p. f i e k ⊗ x p) (place i e k))))
    where
      place : (i e k : ℕ) → i * (t * κ) + (e * κ + k) ≡ (i * t + e) * κ + k
      place i e k = omega arith

  pub dot_triangle : (r t : ℕ) (β : ℕ → C) (f : ℕ → ℕ → C) (x : ℕ → C)
      → dot 𝓡 (flat r (λ i. flat (r - i) (λ k. tab t (λ e. f i (i + k) ⊗ β e)))) x
      ≡ rows 𝓡 r (λ i j. f i j ⊗ sum 𝓡 t (λ e. β e ⊗ x (pair r i j * t + e)))
  unfolding rows pair inner
  dot_triangle r t β f x =
      dot-flat-start 𝓡 r (λ i. (r - i) * t) _ x (row-length r t (λ i j e. f i j ⊗ β e))
      ∙ sum_cong 𝓡 r _ _ (λ i _.
      dot-flat 𝓡 (r - i) t _ (λ p. x (start (λ i. (r - i) * t) i + p)) (λ k _. length-tab t (λ e. f i (i + k) ⊗ β e))
      ∙ sum_cong 𝓡 (r - i) _ _ (λ k _.
      dot-tab 𝓡 t (λ e. f i (i + k) ⊗ β e) (λ p. x (start (λ i. (r - i) * t) i + (k * t + p)))
      ∙ sum_cong 𝓡 t _ _ (λ e _. ap (λ p. f i (i + k) ⊗ β e ⊗ x p) (place i k e) ∙ mul_assoc (f i (i + k)) (β e) _)
      ∙ sym (sum-mul 𝓡 t (f i (i + k)) (λ e. β e ⊗ x ((start (λ i. r - i) i + (i + k - i)) * t + e)))))
    where
      place : (i k e : ℕ) → start (λ i. (r - i) * t) i + (k * t + e) ≡ (start (λ i. r - i) i + (i + k - i)) * t + e
      place i k e = rw (start-scale (λ i. r - i) t i, add-sub_cancel_left i k) (omega arith)

  -- ---- the sums in the words of the checks

  pub rows-neg : (r : ℕ) (f : ℕ → ℕ → C) → rows 𝓡 r (λ i j. ⊖ f i j) ≡ ⊖ rows 𝓡 r f
  unfolding rows
  rows-neg r f = sym (sum-neg 𝓡 r _ ∙ sum_cong 𝓡 r _ _ (λ i _. sum-neg 𝓡 (r - i) (λ k. f i (i + k))))

  pub rows-zero : (r : ℕ) (f : ℕ → ℕ → C) → rows 𝓡 r (λ i j. 𝟘 ⊗ f i j) ≡ 𝟘
  unfolding rows
  rows-zero r f =
      sum_cong 𝓡 r _ (λ i. 𝟘) (λ i _. sum_cong 𝓡 (r - i) _ (λ k. 𝟘) (λ k _. zero-mul 𝓡 _) ∙ sum-zero 𝓡 (r - i)) ∙ sum-zero 𝓡 r

  -- checks 6 and 7: Σ g_ii c_i² + 2 Σ_{i<j} g_ij c_i c_j, where `times` is 1 on the diagonal and 2 off it
  pub rows-mixed : (r : ℕ) (times g : ℕ → ℕ → C) (c : ℕ → C)
      → ((i : ℕ) → times i i ≡ 𝟙) → ((i j : ℕ) → i < j → times i j ≡ 𝟙 ⊕ 𝟙)
      → rows 𝓡 r (λ i j. ⊖ (times i j ⊗ (c i ⊗ c j)) ⊗ g i j) ≡ ⊖ mixed 𝓡 r g c
  unfolding mixed
  rows-mixed r times g c one two =
      rows_cong 𝓡 r _ _ (λ i j _ _. neg-mul 𝓡 (times i j ⊗ (c i ⊗ c j)) (g i j))
      ∙ rows-neg r (λ i j. times i j ⊗ (c i ⊗ c j) ⊗ g i j)
      ∙ ap ⊖◌ (
      rows-below 𝓡 r _
      ∙ ap₂ ◌⊕◌
      (sum_cong 𝓡 r _ _ (λ i _.
      ap (λ y. y ⊗ (c i ⊗ c i) ⊗ g i i) (one i)
      ∙ ap (λ y. y ⊗ g i i) (one-mul 𝓡 (c i ⊗ c i))
      ∙ mul_comm (c i ⊗ c i) (g i i)))
      (below_cong 𝓡 r _ _ (λ i j d _.
      ap (λ y. y ⊗ (c i ⊗ c j) ⊗ g i j) (two i j d)
      ∙ solve3 𝓡 (λ x y z. x :* y :* z) (λ x y z. x :* (z :* y)) tt (𝟙 ⊕ 𝟙) (c i ⊗ c j) (g i j))
      ∙ sym (below-mul 𝓡 r (𝟙 ⊕ 𝟙) (λ i j. g i j ⊗ (c i ⊗ c j)))))

  -- check 8: the h_ii
  pub rows_diagonal : (r : ℕ) (h : ℕ → ℕ → C) → rows 𝓡 r (λ i j. cond (eqb i j) 𝟙 𝟘 ⊗ h i j) ≡ sum 𝓡 r (λ i. h i i)
  unfolding below
  rows_diagonal r h =
      rows-below 𝓡 r _
      ∙ ap₂ ◌⊕◌
      (sum_cong 𝓡 r _ _ (λ i _. ap (λ (t : Bool). cond t 𝟙 𝟘 ⊗ h i i) (eq-eqb i i refl) ∙ one-mul 𝓡 (h i i)))
      (below_cong 𝓡 r _ (λ i j. 𝟘) (λ i j d _.
      ap (λ (t : Bool). cond t 𝟙 𝟘 ⊗ h i j) (ne_eqb i j (λ e. omega arith)) ∙ zero-mul 𝓡 (h i j))
      ∙ sum_cong 𝓡 r _ (λ j. 𝟘) (λ j _. sum-zero 𝓡 j)
      ∙ sum-zero 𝓡 r)
      ∙ add-zero (sum 𝓡 r (λ i. h i i))

  -- check 5, row k: Σ c_i t_i
  pub row_of_parts : (r t κ k : ℕ) (β c x : ℕ → C) → k < κ
      → sum 𝓡 r (λ i. sum 𝓡 t (λ e. sum 𝓡 κ (λ k'. cond (eqb k' k) (⊖ (c i ⊗ β e)) 𝟘 ⊗ x ((i * t + e) * κ + k'))))
      ≡ ⊖ sum 𝓡 r (λ i. c i ⊗ sum 𝓡 t (λ e. β e ⊗ x ((i * t + e) * κ + k)))
  row_of_parts r t κ k β c x l =
      sum_cong 𝓡 r _ _ (λ i _.
      sum_cong 𝓡 t _ _ (λ e _. row i e)
      ∙ sym (sum-neg 𝓡 t (λ e. c i ⊗ (β e ⊗ x ((i * t + e) * κ + k))))
      ∙ ap ⊖◌ (sym (sum-mul 𝓡 t (c i) (λ e. β e ⊗ x ((i * t + e) * κ + k)))))
      ∙ sym (sum-neg 𝓡 r (λ i. c i ⊗ sum 𝓡 t (λ e. β e ⊗ x ((i * t + e) * κ + k))))
    where
      row : (i e : ℕ)
          → sum 𝓡 κ (λ k'. cond (eqb k' k) (⊖ (c i ⊗ β e)) 𝟘 ⊗ x ((i * t + e) * κ + k')) ≡ ⊖ (c i ⊗ (β e ⊗ x ((i * t + e) * κ + k)))
      row i e =
          let y = x ((i * t + e) * κ + k) in
          sum-single 𝓡 κ k (λ k'. cond (eqb k' k) (⊖ (c i ⊗ β e)) 𝟘 ⊗ x ((i * t + e) * κ + k')) l
          (λ k' _ ne.
          ap (λ (b : Bool). cond b (⊖ (c i ⊗ β e)) 𝟘 ⊗ x ((i * t + e) * κ + k')) (ne_eqb k' k ne)
          ∙ zero-mul 𝓡 (x ((i * t + e) * κ + k')))
          ∙ ap (λ (b : Bool). cond b (⊖ (c i ⊗ β e)) 𝟘 ⊗ y) (eq-eqb k k refl)
          ∙ neg-mul 𝓡 (c i ⊗ β e) y
          ∙ ap ⊖◌ (mul_assoc (c i) (β e) y)

  -- check 7: Σ <φ_i, z> c_i
  pub inner-aggregate : (r n : ℕ) (φ : ℕ → ℕ → C) (c z : ℕ → C)
      → inner 𝓡 n (λ k. sum 𝓡 r (λ i. φ i k ⊗ c i)) z ≡ sum 𝓡 r (λ i. inner 𝓡 n (φ i) z ⊗ c i)
  inner-aggregate r n φ c z =
      inner-sum-left 𝓡 n r (λ i k. φ i k ⊗ c i) z
      ∙ sum_cong 𝓡 r _ _ (λ i _.
      inner_cong 𝓡 n _ _ z z (λ k _. mul_comm (φ i k) (c i)) (λ k _. refl)
      ∙ inner-scale-left 𝓡 n (c i) (φ i) z
      ∙ mul_comm (c i) (inner 𝓡 n (φ i) z))
