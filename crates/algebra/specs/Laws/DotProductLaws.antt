-- Laws of the inner product and of dot-product functions over a commutative ring.
--     inner-..     the inner product is bilinear and symmetric
--     value-..     the value of a function depends on the entries that it reads, and is linear in the function
use Prim.Native.Nat.{ℕ, ◌≤◌, ◌<◌}
use Rattle.std.specs.Prelude.{◌≡◌}
use Rattle.std.proofs.Math.Path.{sym, ap₂}
use Rattle.std.proofs.Common.{◌∙◌, arith}
use Rattle.algebra.specs.CommRing.{CommRing}
use Rattle.algebra.specs.Laws.RingLaws.{add-mul, mul-neg, mul_left_comm, add_interchange}
use Rattle.algebra.specs.Sum.{sum}
use Rattle.algebra.specs.Laws.SumLaws.{sum_cong, sum-add, sum-mul, mul-sum, sum-neg, sum_swap}
use Rattle.algebra.specs.Triangle.{rows}
use Rattle.algebra.specs.Laws.TriangleLaws.{rows_cong, rows-add, rows-mul, rows-sum}
use Rattle.algebra.specs.DotProduct.{Function, inner, value, plus, combination}

module _ (𝓡 : CommRing) where
  infixl 65 ◌⊕◌
  infixl 70 ◌⊗◌
  infix 75 ⊖◌
  open 𝓡 use {Carrier as C, add as ◌⊕◌, mul as ◌⊗◌, neg as ⊖◌}
  open 𝓡 use {mul_assoc, mul_comm, mul-add}

  -- ---- the inner product

  pub inner_cong : (n : ℕ) (u u' v v' : ℕ → C) → ((k : ℕ) → k < n → u k ≡ u' k) → ((k : ℕ) → k < n → v k ≡ v' k)
      → inner 𝓡 n u v ≡ inner 𝓡 n u' v'
  unfolding inner
  inner_cong n u u' v v' e h = sum_cong 𝓡 n _ _ (λ k l. ap₂ ◌⊗◌ (e k l) (h k l))

  pub inner_comm : (n : ℕ) (u v : ℕ → C) → inner 𝓡 n u v ≡ inner 𝓡 n v u
  unfolding inner
  inner_comm n u v = sum_cong 𝓡 n _ _ (λ k _. mul_comm (u k) (v k))

  pub inner-add-left : (n : ℕ) (u u' v : ℕ → C) → inner 𝓡 n (λ k. u k ⊕ u' k) v ≡ inner 𝓡 n u v ⊕ inner 𝓡 n u' v
  unfolding inner
  inner-add-left n u u' v =
      sum_cong 𝓡 n _ _ (λ k _. add-mul 𝓡 (u k) (u' k) (v k)) ∙ sum-add 𝓡 n (λ k. u k ⊗ v k) (λ k. u' k ⊗ v k)

  pub inner-add-right : (n : ℕ) (u v v' : ℕ → C) → inner 𝓡 n u (λ k. v k ⊕ v' k) ≡ inner 𝓡 n u v ⊕ inner 𝓡 n u v'
  unfolding inner
  inner-add-right n u v v' =
      sum_cong 𝓡 n _ _ (λ k _. mul-add (u k) (v k) (v' k)) ∙ sum-add 𝓡 n (λ k. u k ⊗ v k) (λ k. u k ⊗ v' k)

  pub inner-scale-left : (n : ℕ) (c : C) (u v : ℕ → C) → inner 𝓡 n (λ k. c ⊗ u k) v ≡ c ⊗ inner 𝓡 n u v
  unfolding inner
  inner-scale-left n c u v = sum_cong 𝓡 n _ _ (λ k _. mul_assoc c (u k) (v k)) ∙ sym (sum-mul 𝓡 n c (λ k. u k ⊗ v k))

  pub inner-scale-right : (n : ℕ) (c : C) (u v : ℕ → C) → inner 𝓡 n u (λ k. c ⊗ v k) ≡ c ⊗ inner 𝓡 n u v
  unfolding inner
  inner-scale-right n c u v = sum_cong 𝓡 n _ _ (λ k _. mul_left_comm 𝓡 (u k) c (v k)) ∙ sym (sum-mul 𝓡 n c (λ k. u k ⊗ v k))

  pub inner-sum-left : (n m : ℕ) (f : ℕ → ℕ → C) (v : ℕ → C)
      → inner 𝓡 n (λ k. sum 𝓡 m (λ i. f i k)) v ≡ sum 𝓡 m (λ i. inner 𝓡 n (f i) v)
  unfolding inner
  inner-sum-left n m f v =
      sum_cong 𝓡 n _ _ (λ k _. mul-sum 𝓡 m (v k) (λ i. f i k)) ∙ sum_swap 𝓡 n m (λ k i. f i k ⊗ v k)

  pub inner-sum-right : (n m : ℕ) (u : ℕ → C) (f : ℕ → ℕ → C)
      → inner 𝓡 n u (λ k. sum 𝓡 m (λ i. f i k)) ≡ sum 𝓡 m (λ i. inner 𝓡 n u (f i))
  unfolding inner
  inner-sum-right n m u f =
      sum_cong 𝓡 n _ _ (λ k _. sum-mul 𝓡 m (u k) (λ i. f i k)) ∙ sum_swap 𝓡 n m (λ k i. u k ⊗ f i k)

  pub inner-neg-right : (n : ℕ) (u v : ℕ → C) → inner 𝓡 n u (λ k. ⊖ v k) ≡ ⊖ inner 𝓡 n u v
  unfolding inner
  inner-neg-right n u v = sum_cong 𝓡 n _ _ (λ k _. mul-neg 𝓡 (u k) (v k)) ∙ sym (sum-neg 𝓡 n (λ k. u k ⊗ v k))

  -- ---- the value of a function

  pub value_cong : (r n : ℕ) (f f' : Function 𝓡) (s s' : ℕ → ℕ → C)
      → ((i j : ℕ) → i ≤ j → j < r → f.a i j ≡ f'.a i j)
      → ((i k : ℕ) → i < r → k < n → f.φ i k ≡ f'.φ i k)
      → ((i k : ℕ) → i < r → k < n → s i k ≡ s' i k)
      → value 𝓡 r n f s ≡ value 𝓡 r n f' s'
  unfolding value
  value_cong r n f f' s s' a φ w =
      ap₂ ◌⊕◌
      (rows_cong 𝓡 r _ _ (λ i j h l. ap₂ ◌⊗◌ (a i j h l) (inner_cong n _ _ _ _ (λ k. w i k (omega arith)) (λ k. w j k l))))
      (sum_cong 𝓡 r _ _ (λ i l. inner_cong n _ _ _ _ (λ k. φ i k l) (λ k. w i k l)))

  pub value-plus : (r n : ℕ) (f g : Function 𝓡) (s : ℕ → ℕ → C)
      → value 𝓡 r n (plus 𝓡 f g) s ≡ value 𝓡 r n f s ⊕ value 𝓡 r n g s
  unfolding value
  value-plus r n f g s =
      ap₂ ◌⊕◌ squares products
      ∙ add_interchange 𝓡 (rows 𝓡 r (square f)) (rows 𝓡 r (square g)) (sum 𝓡 r (product f)) (sum 𝓡 r (product g))
    where
      square : Function 𝓡 → ℕ → ℕ → C
      square f i j = f.a i j ⊗ inner 𝓡 n (s i) (s j)

      product : Function 𝓡 → ℕ → C
      product f i = inner 𝓡 n (f.φ i) (s i)

      squares : rows 𝓡 r (square (plus 𝓡 f g)) ≡ rows 𝓡 r (square f) ⊕ rows 𝓡 r (square g)
      squares =
          rows_cong 𝓡 r _ _ (λ i j _ _. add-mul 𝓡 (f.a i j) (g.a i j) (inner 𝓡 n (s i) (s j)))
          ∙ rows-add 𝓡 r (square f) (square g)

      products : sum 𝓡 r (product (plus 𝓡 f g)) ≡ sum 𝓡 r (product f) ⊕ sum 𝓡 r (product g)
      products =
          sum_cong 𝓡 r _ _ (λ i _. inner-add-left n (f.φ i) (g.φ i) (s i)) ∙ sum-add 𝓡 r (product f) (product g)

  pub value-combination : (r n m : ℕ) (c : ℕ → C) (f : ℕ → Function 𝓡) (s : ℕ → ℕ → C)
      → value 𝓡 r n (combination 𝓡 m c f) s ≡ sum 𝓡 m (λ l. c l ⊗ value 𝓡 r n (f l) s)
  unfolding value
  value-combination r n m c f s =
      ap₂ ◌⊕◌ squares products
      ∙ sym (sum-add 𝓡 m (λ l. c l ⊗ rows 𝓡 r (square l)) (λ l. c l ⊗ sum 𝓡 r (product l)))
      ∙ sum_cong 𝓡 m _ _ (λ l _. sym (mul-add (c l) (rows 𝓡 r (square l)) (sum 𝓡 r (product l))))
    where
      square : ℕ → ℕ → ℕ → C
      square l i j = (f l).a i j ⊗ inner 𝓡 n (s i) (s j)

      product : ℕ → ℕ → C
      product l i = inner 𝓡 n ((f l).φ i) (s i)

      one-square : (x : C) (i j : ℕ) → sum 𝓡 m (λ l. c l ⊗ (f l).a i j) ⊗ x ≡ sum 𝓡 m (λ l. c l ⊗ ((f l).a i j ⊗ x))
      one-square x i j =
          mul-sum 𝓡 m x (λ l. c l ⊗ (f l).a i j) ∙ sum_cong 𝓡 m _ _ (λ l _. mul_assoc (c l) ((f l).a i j) x)

      squares : rows 𝓡 r (λ i j. sum 𝓡 m (λ l. c l ⊗ (f l).a i j) ⊗ inner 𝓡 n (s i) (s j)) ≡ sum 𝓡 m (λ l. c l ⊗ rows 𝓡 r (square l))
      squares =
          rows_cong 𝓡 r _ _ (λ i j _ _. one-square (inner 𝓡 n (s i) (s j)) i j)
          ∙ rows-sum 𝓡 r m (λ l i j. c l ⊗ square l i j)
          ∙ sum_cong 𝓡 m _ _ (λ l _. sym (rows-mul 𝓡 r (c l) (square l)))

      one_product : (i : ℕ) → inner 𝓡 n (λ k. sum 𝓡 m (λ l. c l ⊗ (f l).φ i k)) (s i) ≡ sum 𝓡 m (λ l. c l ⊗ product l i)
      one_product i =
          inner-sum-left n m (λ l k. c l ⊗ (f l).φ i k) (s i)
          ∙ sum_cong 𝓡 m _ _ (λ l _. inner-scale-left n (c l) ((f l).φ i) (s i))

      products : sum 𝓡 r (λ i. inner 𝓡 n (λ k. sum 𝓡 m (λ l. c l ⊗ (f l).φ i k)) (s i)) ≡ sum 𝓡 m (λ l. c l ⊗ sum 𝓡 r (product l))
      products =
          sum_cong 𝓡 r _ _ (λ i _. one_product i)
          ∙ sum_swap 𝓡 r m (λ i l. c l ⊗ product l i)
          ∙ sum_cong 𝓡 m _ _ (λ l _. sym (sum-mul 𝓡 r (c l) (product l)))
