-- Every number of the messages is a coefficient: elements are written by their centred coefficients, and digits of coefficients to a base
-- up to 65536 are coefficients.
use Rattle.std.specs.Prelude.{◌≡◌, refl, true, List, [], ◌∷◌, map, ℕ, zero, suc, ◌+◌, ◌-◌, ◌≤◌, ◌<◌, length, get_or, ℤ, pos, nat_abs}
use Rattle.std.proofs.Math.Nat.{le_step}
use Rattle.std.proofs.Common.{lt-suc_self, arith}
use Rattle.integers.specs.Laws.ListLaws.{length-tab, get_d_tab}
use Rattle.integers.specs.Lists.{all}
use Rattle.integers.specs.Flat.{flat}
use Rattle.residues.proofs.Laws.ModulusLaws.{centred-bound}
use Rattle.ring.specs.Element.{R, coeffs}
use Rattle.ring.specs.Laws.ElementLaws.{length-coeffs, coeffs-small}
use Rattle.residues.specs.Digits.{Base, digit, split}
use Rattle.residues.proofs.Laws.DigitLaws.{digit-small}
use Rattle.residues.specs.Range.{all_within, coefficients}
use Rattle.residues.proofs.Laws.RangeLaws.{coefficients-at, coefficients_of, coefficients-join}
use Rattle.fold.specs.Messages as Messages
use Rattle.fold.specs.Messages.{elements, garbage_digits, t_digits, g_digits, h_digits, z_digits, p}
use Rattle.fold.specs.Sizes.{five}

-- lists laid out one after the other
pub coefficients-flat : (n : ℕ) (F : ℕ → List ℤ) → ((i : ℕ) → i < n → coefficients (F i) ≡ true) → coefficients (flat n F) ≡ true
unfolding flat coefficients all_within all
coefficients-flat zero F h = refl
coefficients-flat (suc n) F h =
    coefficients-join (flat n F) (F n) (coefficients-flat n F (λ i l. h i (le_step l))) (h n (lt-suc_self n))

coefficients-coeffs : (d : ℕ) (u : (R d).Carrier) → coefficients (coeffs d u) ≡ true
coefficients-coeffs d u = coefficients_of (coeffs d u) (λ k h. coeffs-small d u k (omega (arith, length-coeffs d u)))

pub coefficients-elements : (d n : ℕ) (x : ℕ → (R d).Carrier) → coefficients (elements d n x) ≡ true
unfolding elements
coefficients-elements d n x = coefficients-flat n (λ k. coeffs d (x k)) (λ k _. coefficients-coeffs d (x k))

-- digits of coefficients are coefficients
coefficients-split : (b t : ℕ) (xs : List ℤ) → Base b → coefficients xs ≡ true → coefficients (split b t xs) ≡ true
unfolding split
coefficients-split b t xs base e =
    coefficients-flat t (λ i. map (digit b t i) xs) (λ i _. coefficients_of _ (λ k h. digits i xs (coefficients-at xs e) k h))
  where
    digits : (i : ℕ) (ys : List ℤ) → ((k : ℕ) → nat_abs (get_or ys k (pos 0)) ≤ 2147483598) → (k : ℕ)
        → k < length (map (digit b t i) ys) → nat_abs (get_or (map (digit b t i) ys) k (pos 0)) ≤ 2147483598
    digits i [] small k h = absurd (omega arith)
    digits i (y ∷ ys) small zero h = digit-small b base.least t i y base.most (small 0)
    digits i (y ∷ ys) small (suc k) h = digits i ys (λ k. small (suc k)) k (omega arith)

pub coefficients-garbage_digits : (d r b t : ℕ) (x : ℕ → ℕ → (R d).Carrier) → Base b → coefficients (garbage_digits d r b t x) ≡ true
unfolding garbage_digits
coefficients-garbage_digits d r b t x base =
    coefficients-flat r _ (λ i _. coefficients-flat (r - i) _
    (λ k _. coefficients-split b t (coeffs d (x i (i + k))) base (coefficients-coeffs d (x i (i + k)))))

pub coefficients-p : (d n r w : ℕ) (projections s : List ℤ) → coefficients (p d n r w projections s) ≡ true
unfolding p
coefficients-p d n r w projections s =
    coefficients_of _ (λ j h. rw (get_d_tab w _ j (pos 0) (rw (length-tab w _) at h)) (centred-bound _))

pub coefficients-z_digits : (d n r tz b : ℕ) (c s : List ℤ) → Base b → coefficients (z_digits d n r tz b c s) ≡ true
unfolding z_digits
coefficients-z_digits d n r tz b c s base = coefficients-split b tz _ base (coefficients-elements d n _)

pub coefficients-t_digits : (d n r κ b₁ t₁ : ℕ) (A s : List ℤ) → Base b₁ → coefficients (t_digits d n r κ b₁ t₁ A s) ≡ true
unfolding t_digits
coefficients-t_digits d n r κ b₁ t₁ A s base =
    coefficients-flat r _ (λ i _. coefficients-split b₁ t₁ _ base (coefficients-elements d κ _))

pub coefficients-g_digits : (d n r b₂ t₂ : ℕ) (s : List ℤ) → Base b₂ → coefficients (g_digits d n r b₂ t₂ s) ≡ true
unfolding g_digits
coefficients-g_digits d n r b₂ t₂ s base = coefficients-garbage_digits d r b₂ t₂ _ base

pub coefficients-h_digits : (d n r b₁ t₁ : ℕ) (φ : ℕ → ℕ → (R d).Carrier) (s : List ℤ) → Base b₁
    → coefficients (h_digits d n r b₁ t₁ φ s) ≡ true
unfolding h_digits
coefficients-h_digits d n r b₁ t₁ φ s base = coefficients-garbage_digits d r b₁ t₁ _ base

pub coefficients-u₁ : (d r κ κ₁ t₁ t₂ : ℕ) (B C x y : List ℤ) → coefficients (Messages.u₁ d r κ κ₁ t₁ t₂ B C x y) ≡ true
unfolding Messages.u₁
coefficients-u₁ d r κ κ₁ t₁ t₂ B C x y = coefficients-elements d κ₁ _

pub coefficients-b'' : (d n r L w : ℕ) (constant_terms projections ψ ω s : List ℤ)
    → coefficients (Messages.b'' d n r L w constant_terms projections ψ ω s) ≡ true
unfolding Messages.b''
coefficients-b'' d n r L w constant_terms projections ψ ω s = coefficients-elements d five _

pub coefficients-u₂ : (d r κ₂ t₁ : ℕ) (D x : List ℤ) → coefficients (Messages.u₂ d r κ₂ t₁ D x) ≡ true
unfolding Messages.u₂
coefficients-u₂ d r κ₂ t₁ D x = coefficients-elements d κ₂ _
