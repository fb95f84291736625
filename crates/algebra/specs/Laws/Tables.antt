-- Lists of ring elements as tables of coefficients: `dot xs o` is the sum over the places p of entry p of xs times o p.
-- A table that is laid out in blocks gives the sum of its blocks' sums, each read from the place where its block starts.
use Prim.Native.Nat.{ℕ, zero, suc, ◌+◌, ◌*◌, ◌<◌}
use Rattle.std.specs.Prelude.{◌≡◌, length, replicate}
use Rattle.std.proofs.Math.Path.{refl, sym, ap, ap₂}
use Rattle.std.proofs.Common.{◌∙◌, lt-suc_self, suc-mul, zero-add as nat-zero-add, zero-mul as nat-zero-mul, arith, length-append}
use mathlib.Core.List.{List, [], ◌∷◌, ◌++◌}
use Rattle.std.proofs.Math.Nat.{le_step, suc-add}
use Rattle.std.proofs.Math.ListN.{get_or}
use Rattle.integers.specs.Lists.{tab}
use Rattle.integers.specs.Laws.ListLaws.{tab_get_d}
use Rattle.integers.specs.Flat.{flat}
use Rattle.algebra.specs.CommRing.{CommRing}
use Rattle.algebra.specs.Laws.RingLaws.{zero-add, zero-mul}
use Rattle.algebra.specs.Sum.{sum}
use Rattle.algebra.specs.Laws.SumLaws.{sum_cong, sum_first}
use Rattle.algebra.specs.Triangle.{start}
use Rattle.algebra.specs.DotProduct.{inner}

-- blocks of widths w 0, w 1, .. end where the next one would start
pub length-flat-start {ℓ} : {A : Type ℓ} (n : ℕ) (w : ℕ → ℕ) (F : ℕ → List A)
    → ((i : ℕ) → i < n → length (F i) ≡ w i) → length (flat n F) ≡ start w n
unfolding flat start
length-flat-start zero w F e = refl
length-flat-start (suc n) w F e =
    omega (arith, length-append (flat n F) (F n), length-flat-start n w F (λ i h. e i (le_step h)), e n (lt-suc_self n))

-- blocks of one width
pub start_const : (m n : ℕ) → start (λ i. m) n ≡ n * m
unfolding start
start_const m zero = sym (nat-zero-mul m)
start_const m (suc n) = rw suc-mul (ap (λ x. x + m) (start_const m n))

module _ (𝓡 : CommRing) where
  infixl 65 ◌⊕◌
  infixl 70 ◌⊗◌
  open 𝓡 use {Carrier as C, zero as 𝟘, add as ◌⊕◌, mul as ◌⊗◌}
  open 𝓡 use {add_assoc}

  unfoldable pub dot : List C → (ℕ → C) → C
  dot [] o = 𝟘
  dot (x ∷ xs) o = x ⊗ o 0 ⊕ dot xs (λ p. o (suc p))

  -- only the places of the table matter
  pub dot_cong : (xs : List C) (o o' : ℕ → C) → ((p : ℕ) → p < length xs → o p ≡ o' p) → dot xs o ≡ dot xs o'
  unfolding dot
  dot_cong [] o o' e = refl
  dot_cong (x ∷ xs) o o' e =
      ap₂ ◌⊕◌ (ap (λ y. x ⊗ y) (e 0 (omega arith))) (dot_cong xs _ _ (λ p h. e (suc p) (omega arith)))

  pub dot-append : (xs ys : List C) (o : ℕ → C) → dot (xs ++ ys) o ≡ dot xs o ⊕ dot ys (λ p. o (length xs + p))
  unfolding dot
  dot-append [] ys o = simp (nat-zero-add, zero-add 𝓡)
  dot-append (x ∷ xs) ys o =
      simp suc-add (
      ap (λ y. x ⊗ o 0 ⊕ y) (dot-append xs ys (λ p. o (suc p)))
      ∙ sym (add_assoc (x ⊗ o 0) (dot xs (λ p. o (suc p))) (dot ys (λ p. o (suc (length xs + p)))))
      )

  -- a table given by its entries
  pub dot-tab : (n : ℕ) (f o : ℕ → C) → dot (tab n f) o ≡ inner 𝓡 n f o
  unfolding dot tab inner sum
  dot-tab zero f o = refl
  dot-tab (suc n) f o =
      ap (λ y. f 0 ⊗ o 0 ⊕ y) (dot-tab n (λ i. f (suc i)) (λ i. o (suc i))) ∙ sym (sum_first 𝓡 n (λ k. f k ⊗ o k))

  pub dot-sum : (xs : List C) (o : ℕ → C) → dot xs o ≡ sum 𝓡 (length xs) (λ p. get_or xs p 𝟘 ⊗ o p)
  unfolding inner
  dot-sum xs o = sym (ap (λ ys. dot ys o) (tab_get_d xs 𝟘)) ∙ dot-tab (length xs) (λ p. get_or xs p 𝟘) o

  pub dot-zeros : (n : ℕ) (o : ℕ → C) → dot (replicate n 𝟘) o ≡ 𝟘
  unfolding dot
  dot-zeros zero o = refl
  dot-zeros (suc n) o = rw (zero-mul 𝓡 (o 0), zero-add 𝓡) (dot-zeros n (λ p. o (suc p)))

  -- blocks of widths w 0, w 1, ..
  pub dot-flat-start : (n : ℕ) (w : ℕ → ℕ) (F : ℕ → List C) (o : ℕ → C) → ((i : ℕ) → i < n → length (F i) ≡ w i)
      → dot (flat n F) o ≡ sum 𝓡 n (λ i. dot (F i) (λ p. o (start w i + p)))
  unfolding flat sum dot
  dot-flat-start zero w F o e = refl
  dot-flat-start (suc n) w F o e =
      dot-append (flat n F) (F n) o
      ∙ ap₂ ◌⊕◌
      (dot-flat-start n w F o (λ i h. e i (le_step h)))
      (ap (λ m. dot (F n) (λ p. o (m + p))) (length-flat-start n w F (λ i h. e i (le_step h))))

  -- blocks of one width m
  pub dot-flat : (n m : ℕ) (F : ℕ → List C) (o : ℕ → C) → ((i : ℕ) → i < n → length (F i) ≡ m)
      → dot (flat n F) o ≡ sum 𝓡 n (λ i. dot (F i) (λ p. o (i * m + p)))
  dot-flat n m F o e =
      dot-flat-start n (λ i. m) F o e ∙ sum_cong 𝓡 n _ _ (λ i _. ap (λ a. dot (F i) (λ p. o (a + p))) (start_const m i))
