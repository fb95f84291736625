-- Sums over a vector x that is cut into chunks, in any commutative ring: part s, of rank n', is chunk s of w s entries and then zeros.
--     chunk_products     a table of coefficients that is cut in the same way: the parts' inner products add up to Σ table_p x_p
--     chunk-inner        the inner product of two parts of one width
use Rattle.std.specs.Prelude.{◌≡◌, ◌≢◌, Bool, cond, List, ltb, length, get_or}
use Rattle.std.proofs.Math.Path.{sym, ap}
use Rattle.std.proofs.Common.{ap₂, ◌∙◌, add-sub_of_le, arith, lt-ltb}
use Prim.Native.Nat.{ℕ, zero, ◌+◌, ◌-◌, ◌*◌, ◌≤◌, ◌<◌}
use Rattle.algebra.specs.CommRing.{CommRing}
use Rattle.algebra.specs.Laws.RingLaws.{mul-zero}
use Rattle.algebra.specs.Sum.{sum}
use Rattle.algebra.specs.Laws.SumLaws.{sum_cong, sum_vanish, sum-mul, sum-split, sum_swap, sum-single, sum_blocks}
use Rattle.algebra.specs.Triangle.{start, rows}
use Rattle.algebra.specs.Laws.TriangleLaws.{sum-start, below_cong, rows-below, rows-square}
use Rattle.algebra.specs.Laws.Tables.{dot, dot-sum}
use Rattle.algebra.specs.DotProduct.{inner, folded}
use Rattle.algebra.specs.Laws.DotProductLaws.{inner_comm}
use Rattle.algebra.proofs.Laws.FoldLaws.{folded_linear}

module _ (𝓡 : CommRing) where
  infixl 65 ◌⊕◌
  infixl 70 ◌⊗◌
  open 𝓡 use {Carrier as C, zero as 𝟘, add as ◌⊕◌, mul as ◌⊗◌}
  open 𝓡 use {add-zero, mul_assoc}

  -- summands from m on are zero
  pub sum-short : (m n : ℕ) (f : ℕ → C) → m ≤ n → ((k : ℕ) → m ≤ k → k < n → f k ≡ 𝟘) → sum 𝓡 n f ≡ sum 𝓡 m f
  sum-short m n f l h =
      ap (λ j. sum 𝓡 j f) (sym (add-sub_of_le l))
      ∙ sum-split 𝓡 m (n - m) f
      ∙ ap (λ y. sum 𝓡 m f ⊕ y) (sum_vanish 𝓡 (n - m) _ (λ k b. h (m + k) (omega arith) (omega arith)))
      ∙ add-zero (sum 𝓡 m f)

  -- a sum over i ≤ j whose mixed summands stand for two
  pub rows_full : (r : ℕ) (a f : ℕ → ℕ → C) → ((i : ℕ) → i < r → a i i ≡ f i i) → ((i j : ℕ) → i < j → j < r → a i j ≡ f i j ⊕ f j i)
      → rows 𝓡 r a ≡ sum 𝓡 r (λ i. sum 𝓡 r (λ j. f i j))
  rows_full r a f e h =
      rows-below 𝓡 r a
      ∙ ap₂ ◌⊕◌ (sum_cong 𝓡 r _ _ (λ i l. e i l)) (below_cong 𝓡 r _ _ (λ i j d l. h i j d l))
      ∙ sym (rows-square 𝓡 r f)

  -- a square table that is zero but where s and s' are entries i of blocks e and e'
  pub grid_sum : (t v r : ℕ) (f : ℕ → ℕ → C) → t * v ≤ r
      → ((s s' : ℕ) → t * v ≤ s → f s s' ≡ 𝟘) → ((s s' : ℕ) → t * v ≤ s' → f s s' ≡ 𝟘)
      → ((e i e' i' : ℕ) → i < v → i' < v → i' ≢ i → f (e * v + i) (e' * v + i') ≡ 𝟘)
      → sum 𝓡 r (λ s. sum 𝓡 r (λ s'. f s s')) ≡ sum 𝓡 t (λ e. sum 𝓡 t (λ e'. sum 𝓡 v (λ i. f (e * v + i) (e' * v + i))))
  grid_sum t v r f l low high other =
      sum-short (t * v) r _ l (λ s b _. sum_vanish 𝓡 r _ (λ s' _. low s s' b))
      ∙ sum_blocks 𝓡 t v _
      ∙ sum_cong 𝓡 t _ _ (λ e _. sum_cong 𝓡 v _ _ (λ i b. row e i b) ∙ sum_swap 𝓡 v t (λ i e'. f (e * v + i) (e' * v + i)))
    where
      row : (e i : ℕ) → i < v → sum 𝓡 r (λ s'. f (e * v + i) s') ≡ sum 𝓡 t (λ e'. f (e * v + i) (e' * v + i))
      row e i b =
          sum-short (t * v) r _ l (λ s' c _. high (e * v + i) s' c)
          ∙ sum_blocks 𝓡 t v _
          ∙ sum_cong 𝓡 t _ _ (λ e' _. sum-single 𝓡 v i (λ i'. f (e * v + i) (e' * v + i')) b (λ i' c ne. other e i e' i' b c ne))

  -- <z, z> where z is recomposed from t digits
  pub joined-square : (t n : ℕ) (β x : ℕ → C)
      → inner 𝓡 n (λ k. sum 𝓡 t (λ e. β e ⊗ x (e * n + k))) (λ k. sum 𝓡 t (λ e. β e ⊗ x (e * n + k)))
      ≡ sum 𝓡 t (λ e. sum 𝓡 t (λ e'. β e ⊗ β e' ⊗ inner 𝓡 n (λ k. x (e * n + k)) (λ k. x (e' * n + k))))
  unfolding folded
  joined-square t n β x =
      folded_linear 𝓡 t n β digit z
      ∙ sum_cong 𝓡 t _ _ (λ e _.
      ap (λ y. β e ⊗ y) (inner_comm 𝓡 n z (digit e) ∙ folded_linear 𝓡 t n β digit (digit e))
      ∙ sum-mul 𝓡 t (β e) (λ e'. β e' ⊗ inner 𝓡 n (digit e) (digit e'))
      ∙ sum_cong 𝓡 t _ _ (λ e' _. sym (mul_assoc (β e) (β e') (inner 𝓡 n (digit e) (digit e')))))
    where
      digit : ℕ → ℕ → C
      digit e k = x (e * n + k)

      z : ℕ → C
      z k = sum 𝓡 t (λ e. β e ⊗ x (e * n + k))

-- ---- the parts of x

module _ (𝓡 : CommRing) (r n' : ℕ) (w : ℕ → ℕ) (fits : (s : ℕ) → w s ≤ n') (x : ℕ → 𝓡.Carrier) (parts : ℕ → ℕ → 𝓡.Carrier)
    (within : (s k : ℕ) → s < r → k < w s → parts s k ≡ x (start w s + k))
    (past : (s k : ℕ) → s < r → w s ≤ k → k < n' → parts s k ≡ 𝓡.zero) where
  infixl 65 ◌⊕◌
  infixl 70 ◌⊗◌
  open 𝓡 use {Carrier as C, zero as 𝟘, add as ◌⊕◌, mul as ◌⊗◌}

  -- a vector against part s: only the chunk's entries count
  inner-part : (u : ℕ → C) (s : ℕ) → s < r → inner 𝓡 n' u (parts s) ≡ sum 𝓡 (w s) (λ k. u k ⊗ x (start w s + k))
  unfolding inner
  inner-part u s h =
      sum-short 𝓡 (w s) n' (λ k. u k ⊗ parts s k) (fits s) (λ k b l. ap (λ y. u k ⊗ y) (past s k h b l) ∙ mul-zero 𝓡 (u k))
      ∙ sum_cong 𝓡 (w s) _ _ (λ k l. ap (λ y. u k ⊗ y) (within s k h l))

  pub chunk_products : (table : List C) → length table ≡ start w r
      → sum 𝓡 r (λ s. inner 𝓡 n' (λ k. cond (ltb k (w s)) (get_or table (start w s + k) 𝟘) 𝟘) (parts s)) ≡ dot 𝓡 table x
  chunk_products table e =
      sum_cong 𝓡 r _ _ (λ s h. inner-part _ s h ∙ sum_cong 𝓡 (w s) _ _ (λ k l. ap (λ y. y ⊗ x (start w s + k)) (entry s k l)))
      ∙ sym (sum-start 𝓡 w r (λ p. get_or table p 𝟘 ⊗ x p))
      ∙ ap (λ n. sum 𝓡 n (λ p. get_or table p 𝟘 ⊗ x p)) (sym e)
      ∙ sym (dot-sum 𝓡 table x)
    where
      entry : (s k : ℕ) → k < w s → cond (ltb k (w s)) (get_or table (start w s + k) 𝟘) 𝟘 ≡ get_or table (start w s + k) 𝟘
      entry s k l = ap (λ (t : Bool). cond t (get_or table (start w s + k) 𝟘) 𝟘) (lt-ltb k (w s) l)

  pub chunk-inner : (s s' c : ℕ) → s < r → s' < r → w s ≡ c → w s' ≡ c
      → inner 𝓡 n' (parts s) (parts s') ≡ sum 𝓡 c (λ k. x (start w s + k) ⊗ x (start w s' + k))
  chunk-inner s s' c h h' e e' =
      inner-part (parts s) s' h'
      ∙ ap (λ n. sum 𝓡 n (λ k. parts s k ⊗ x (start w s' + k))) e'
      ∙ sum_cong 𝓡 c _ _ (λ k l. ap (λ y. y ⊗ x (start w s' + k)) (within s k h (omega arith)))
