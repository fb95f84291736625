-- Laws of finite sums in a commutative ring.
use Prim.Native.Nat.{ℕ, zero, suc, ◌+◌, ◌*◌, ◌<◌}
use Rattle.std.specs.Prelude.{◌≡◌, ◌⊎◌, ◌≢◌}
use Rattle.std.proofs.Math.Path.{refl, sym, ap, ap₂}
use Rattle.std.proofs.Common.{◌∙◌, inl, inr, lt-suc_self, eq-or-lt_of_le}
use Rattle.std.proofs.Math.Nat.{le_step, suc-mul, add-suc, add-zero as nat-add-zero, zero-mul as nat-zero-mul}
use Rattle.std.proofs.Math.Numerals.{add-one}
use native.Mathlib.Omega.{arith}
use Rattle.algebra.specs.CommRing.{CommRing}
use Rattle.algebra.specs.Laws.RingLaws.{zero-add, neg-zero, neg_distrib, mul-zero, add_interchange}
use Rattle.algebra.specs.Sum.{sum}

module _ (𝓡 : CommRing) where
  infixl 65 ◌⊕◌
  infixl 70 ◌⊗◌
  infix 75 ⊖◌
  open 𝓡 use {Carrier, zero as 𝟘, add as ◌⊕◌, mul as ◌⊗◌, neg as ⊖◌}
  open 𝓡 use {add_assoc, add_comm, add-zero, mul_comm, mul-add}

  -- a sum depends on the summands that it adds, and on nothing else
  pub sum_cong : (n : ℕ) (f g : ℕ → Carrier) → ((i : ℕ) → i < n → f i ≡ g i) → sum 𝓡 n f ≡ sum 𝓡 n g
  unfolding sum
  sum_cong zero f g h = refl
  sum_cong (suc n) f g h = ap₂ ◌⊕◌ (sum_cong n f g (λ i l. h i (le_step l))) (h n (lt-suc_self n))

  pub sum-zero : (n : ℕ) → sum 𝓡 n (λ _. 𝟘) ≡ 𝟘
  unfolding sum
  sum-zero zero = refl
  sum-zero (suc n) = ap (λ x. x ⊕ 𝟘) (sum-zero n) ∙ add-zero 𝟘

  -- a sum of zeros, each for its own reason
  pub sum_vanish : (n : ℕ) (f : ℕ → Carrier) → ((i : ℕ) → i < n → f i ≡ 𝟘) → sum 𝓡 n f ≡ 𝟘
  sum_vanish n f h = sum_cong n f (λ _. 𝟘) h ∙ sum-zero n

  pub sum-add : (n : ℕ) (f g : ℕ → Carrier) → sum 𝓡 n (λ i. f i ⊕ g i) ≡ sum 𝓡 n f ⊕ sum 𝓡 n g
  unfolding sum
  sum-add zero f g = sym (add-zero 𝟘)
  sum-add (suc n) f g =
      ap (λ x. x ⊕ (f n ⊕ g n)) (sum-add n f g) ∙ add_interchange 𝓡 (sum 𝓡 n f) (sum 𝓡 n g) (f n) (g n)

  pub sum-mul : (n : ℕ) (c : Carrier) (f : ℕ → Carrier) → c ⊗ sum 𝓡 n f ≡ sum 𝓡 n (λ i. c ⊗ f i)
  unfolding sum
  sum-mul zero c f = mul-zero 𝓡 c
  sum-mul (suc n) c f = mul-add c (sum 𝓡 n f) (f n) ∙ ap (λ x. x ⊕ c ⊗ f n) (sum-mul n c f)

  pub mul-sum : (n : ℕ) (c : Carrier) (f : ℕ → Carrier) → sum 𝓡 n f ⊗ c ≡ sum 𝓡 n (λ i. f i ⊗ c)
  mul-sum n c f = mul_comm (sum 𝓡 n f) c ∙ sum-mul n c f ∙ sum_cong n (λ i. c ⊗ f i) (λ i. f i ⊗ c) (λ i _. mul_comm c (f i))

  pub sum-neg : (n : ℕ) (f : ℕ → Carrier) → ⊖ sum 𝓡 n f ≡ sum 𝓡 n (λ i. ⊖ f i)
  unfolding sum
  sum-neg zero f = neg-zero 𝓡
  sum-neg (suc n) f = neg_distrib 𝓡 (sum 𝓡 n f) (f n) ∙ ap (λ x. x ⊕ ⊖ f n) (sum-neg n f)

  -- the order of a double sum
  pub sum_swap : (m n : ℕ) (f : ℕ → ℕ → Carrier) → sum 𝓡 m (λ i. sum 𝓡 n (λ j. f i j)) ≡ sum 𝓡 n (λ j. sum 𝓡 m (λ i. f i j))
  unfolding sum
  sum_swap zero n f = sym (sum-zero n)
  sum_swap (suc m) n f =
      ap (λ x. x ⊕ sum 𝓡 n (λ j. f m j)) (sum_swap m n f) ∙ sym (sum-add n (λ j. sum 𝓡 m (λ i. f i j)) (λ j. f m j))

  pub sum-one-more : (n : ℕ) (f : ℕ → Carrier) → sum 𝓡 (n + 1) f ≡ sum 𝓡 n f ⊕ f n
  unfolding sum
  sum-one-more n f = rw add-one

  pub sum-split : (m n : ℕ) (f : ℕ → Carrier) → sum 𝓡 (m + n) f ≡ sum 𝓡 m f ⊕ sum 𝓡 n (λ i. f (m + i))
  unfolding sum
  sum-split m zero f = rw nat-add-zero (sym (add-zero (sum 𝓡 m f)))
  sum-split m (suc n) f =
      rw add-suc (ap (λ x. x ⊕ f (m + n)) (sum-split m n f) ∙ add_assoc (sum 𝓡 m f) (sum 𝓡 n (λ i. f (m + i))) (f (m + n)))

  pub sum_first : (n : ℕ) (f : ℕ → Carrier) → sum 𝓡 (suc n) f ≡ f 0 ⊕ sum 𝓡 n (λ i. f (suc i))
  unfolding sum
  sum_first zero f = add_comm 𝟘 (f 0)
  sum_first (suc n) f = ap (λ x. x ⊕ f (suc n)) (sum_first n f) ∙ add_assoc (f 0) (sum 𝓡 n (λ i. f (suc i))) (f (suc n))

  -- one summand alone may differ from zero
  pub sum-single : (n k : ℕ) (f : ℕ → Carrier) → k < n → ((i : ℕ) → i < n → i ≢ k → f i ≡ 𝟘) → sum 𝓡 n f ≡ f k
  unfolding sum
  sum-single zero k f l h = absurd (omega arith)
  sum-single (suc n) k f l h = pick (λ d. sum-single n k f d (λ i g. h i (le_step g))) (eq-or-lt_of_le l)
    where
      pick : (k < n → sum 𝓡 n f ≡ f k) → (suc k ≡ suc n) ⊎ (suc k < suc n) → sum 𝓡 n f ⊕ f n ≡ f k
      pick before (inl e) =
          let same : k ≡ n = omega arith in
          rw (sum_vanish n f (λ i g. h i (le_step g) (λ d. omega arith)), same) (zero-add 𝓡 (f n))
      pick before (inr g) = rw (before (omega arith), h n (lt-suc_self n) (λ d. omega arith)) (add-zero (f k))

  -- m blocks of n summands each
  pub sum_blocks : (m n : ℕ) (f : ℕ → Carrier) → sum 𝓡 (m * n) f ≡ sum 𝓡 m (λ i. sum 𝓡 n (λ j. f (i * n + j)))
  unfolding sum
  sum_blocks zero n f = rw nat-zero-mul
  sum_blocks (suc m) n f =
      rw suc-mul (sum-split (m * n) n f ∙ ap (λ x. x ⊕ sum 𝓡 n (λ j. f (m * n + j))) (sum_blocks m n f))
