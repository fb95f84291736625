-- What each reading of an opening depends on: the recomposed values and the rows of the commitments look at their own block only.
use Rattle.std.specs.Prelude.{◌≡◌, refl, List, ℕ, ◌+◌, ◌*◌, ◌≤◌, ◌<◌, ℤ}
use Rattle.std.proofs.Math.Path.{ap₂}
use Rattle.std.proofs.Common.{arith}
use Rattle.integers.specs.Laws.FlatLaws.{block-fits}
use Rattle.algebra.specs.Laws.DotProductLaws.{inner_cong}
use Rattle.algebra.specs.Triangle.{pair, pairs-count}
use Rattle.algebra.specs.Laws.TriangleLaws.{pair-bound}
use Rattle.ring.specs.Element.{R}
use Rattle.ring.specs.Laws.DigitElements.{joined_cong}
use Rattle.fold.specs.Sizes.{pairs, t_size, garbage_size}
use Rattle.fold.specs.Messages.{times, outer₁, outer₂}
use Rattle.fold.specs.Opening.{z_of, t_of, garbage_of}

module _ (d : ℕ) where
  -- ---- recomposed values

  pub z_of_cong : (n tz b : ℕ) (x y : ℕ → (R d).Carrier) → ((p : ℕ) → p < tz * n → x p ≡ y p) → (k : ℕ) → k < n
      → z_of d n tz b x k ≡ z_of d n tz b y k
  unfolding z_of
  z_of_cong n tz b x y h k l = joined_cong d b tz _ _ (λ e m. h (e * n + k) (block-fits tz n e k m l))

  pub t_of_cong : (r κ b₁ t₁ : ℕ) (x y : ℕ → (R d).Carrier) → ((p : ℕ) → p < t_size r κ t₁ → x p ≡ y p) → (i k : ℕ) → i < r → k < κ
      → t_of d κ b₁ t₁ x i k ≡ t_of d κ b₁ t₁ y i k
  unfolding t_of t_size
  t_of_cong r κ b₁ t₁ x y h i k l m =
      joined_cong d b₁ t₁ _ _ (λ e g. h ((i * t₁ + e) * κ + k)
      (omega (arith, block-fits (r * t₁) κ (i * t₁ + e) k (block-fits r t₁ i e l g) m)))

  pub garbage_of_cong : (r b t : ℕ) (x y : ℕ → (R d).Carrier) → ((p : ℕ) → p < garbage_size r t → x p ≡ y p) → (i j : ℕ) → i ≤ j → j < r
      → garbage_of d r b t x i j ≡ garbage_of d r b t y i j
  unfolding garbage_of garbage_size pairs
  garbage_of_cong r b t x y h i j l m =
      joined_cong d b t _ _ (λ e g. h (pair r i j * t + e) (block-fits (pairs-count r) t (pair r i j) e (pair-bound r i j l m) g))

  -- ---- rows of a matrix

  pub times_cong : (m : ℕ) (M : List ℤ) (k : ℕ) (x y : ℕ → (R d).Carrier) → ((p : ℕ) → p < m → x p ≡ y p) → times d m M k x ≡ times d m M k y
  unfolding times
  times_cong m M k x y h = inner_cong (R d) m _ _ x y (λ p _. refl) h

  pub outer₁_cong : (r κ t₁ t₂ : ℕ) (B C : List ℤ) (k : ℕ) (x x' y y' : ℕ → (R d).Carrier)
      → ((p : ℕ) → p < t_size r κ t₁ → x p ≡ x' p) → ((p : ℕ) → p < garbage_size r t₂ → y p ≡ y' p)
      → outer₁ d r κ t₁ t₂ B C k x y ≡ outer₁ d r κ t₁ t₂ B C k x' y'
  unfolding outer₁
  outer₁_cong r κ t₁ t₂ B C k x x' y y' e h =
      ap₂ (R d).add (times_cong (t_size r κ t₁) B k x x' e) (times_cong (garbage_size r t₂) C k y y' h)

  pub outer₂_cong : (r t₁ : ℕ) (D : List ℤ) (k : ℕ) (x y : ℕ → (R d).Carrier) → ((p : ℕ) → p < garbage_size r t₁ → x p ≡ y p)
      → outer₂ d r t₁ D k x ≡ outer₂ d r t₁ D k y
  unfolding outer₂
  outer₂_cong r t₁ D k x y h = times_cong (garbage_size r t₁) D k x y h
