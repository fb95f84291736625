-- What the digits of the messages read back as: their lengths, and that they recompose to the elements that were split.
use Rattle.std.specs.Prelude.{◌≡◌, List, ℕ, ◌+◌, ◌*◌, ◌≤◌, ◌<◌, ℤ, pos}
use Rattle.std.proofs.Math.Path.{ap}
use Rattle.std.proofs.Common.{◌∙◌}
use native.Mathlib.Omega.{arith}
use Rattle.std.proofs.Math.ListN.{length, get_or}
use Rattle.integers.specs.Laws.ListLaws.{length-tab}
use Rattle.integers.specs.Laws.FlatLaws.{length-flat, get_d_flat, block-fits}
use Rattle.algebra.specs.Triangle.{pair}
use Rattle.ring.specs.Element.{R, el, coeffs}
use Rattle.ring.specs.Laws.ElementLaws.{length-coeffs, lift-coeffs}
use Rattle.ring.specs.Laws.ElementPlaces.{el_cong, el-zero, el-flat-coeffs}
use Rattle.residues.specs.Digits.{split}
use Rattle.residues.proofs.Laws.DigitLaws.{length-split}
use Rattle.ring.specs.Laws.DigitElements.{joined_cong, joined-split}
use Rattle.fold.specs.Sizes.{pairs, t_size, garbage_size}
use Rattle.fold.proofs.Laws.Layout.{length_triangle, get_d_triangle}
use Rattle.fold.specs.Messages.{elements, garbage_digits, t_digits, g_digits, h_digits, z_digits}
use Rattle.fold.specs.Messages as Messages
use Rattle.fold.specs.Opening.{z_of, t_of, garbage_of}

-- ---- elements written one after the other

module _ (d n : ℕ) (x : ℕ → (R d).Carrier) where
  pub length-elements : length (elements d n x) ≡ n * d
  unfolding elements
  length-elements = length-flat n d (λ k. coeffs d (x k)) (λ k _. length-coeffs d (x k))

  pub el-elements : (k : ℕ) → k < n → el d (elements d n x) k ≡ x k
  unfolding elements
  el-elements k h = el-flat-coeffs d n x k h

  -- their digits
  pub length-split-elements : (b t : ℕ) → length (split b t (elements d n x)) ≡ t * (n * d)
  length-split-elements b t = length-split b t (elements d n x) ∙ ap (λ m. t * m) length-elements

-- ---- z, t, g and h in digits

module _ (d n r tz b : ℕ) (c s : List ℤ) where
  pub length-z_digits : length (z_digits d n r tz b c s) ≡ tz * n * d
  unfolding z_digits
  length-z_digits = omega (arith, length-split-elements d n (Messages.z d n r c s) b tz)

  pub z_of_digits : 2 ≤ b → 0 < tz → (k : ℕ) → k < n
      → z_of d n tz b (el d (z_digits d n r tz b c s)) k ≡ Messages.z d n r c s k
  unfolding z_of z_digits
  z_of_digits two some k h =
      joined-split d b tz n (elements d n (Messages.z d n r c s)) (length-elements d n (Messages.z d n r c s)) two some k h
      ∙ el-elements d n (Messages.z d n r c s) k h

module _ (d n r κ b₁ t₁ : ℕ) (A s : List ℤ) where
  part-digits : ℕ → List ℤ
  part-digits i = split b₁ t₁ (elements d κ (Messages.t d n A s i))

  part_length : (i : ℕ) → i < r → length (part-digits i) ≡ t₁ * (κ * d)
  unfolding part-digits
  part_length i _ = length-split-elements d κ (Messages.t d n A s i) b₁ t₁

  pub length-t_digits : length (t_digits d n r κ b₁ t₁ A s) ≡ t_size r κ t₁ * d
  unfolding t_digits t_size part-digits
  length-t_digits = omega (arith, length-flat r (t₁ * (κ * d)) part-digits part_length)

  el-t_digits : (i e k : ℕ) → i < r → e < t₁ → k < κ
      → el d (t_digits d n r κ b₁ t₁ A s) ((i * t₁ + e) * κ + k) ≡ el d (part-digits i) (e * κ + k)
  unfolding t_digits part-digits
  el-t_digits i e k h l m = el_cong d (t_digits d n r κ b₁ t₁ A s) (part-digits i) ((i * t₁ + e) * κ + k) (e * κ + k) entry
    where
      entry : (j : ℕ) → j < d
          → get_or (t_digits d n r κ b₁ t₁ A s) (((i * t₁ + e) * κ + k) * d + j) (pos 0) ≡ get_or (part-digits i) ((e * κ + k) * d + j) (pos 0)
      entry j g =
          let place : ((i * t₁ + e) * κ + k) * d + j ≡ i * (t₁ * (κ * d)) + ((e * κ + k) * d + j) = omega arith in
          let inside : (e * κ + k) * d + j < t₁ * (κ * d) =
          omega (arith, block-fits (t₁ * κ) d (e * κ + k) j (block-fits t₁ κ e k l m) g) in
          ap (λ p. get_or (t_digits d n r κ b₁ t₁ A s) p (pos 0)) place
          ∙ get_d_flat r (t₁ * (κ * d)) part-digits part_length i ((e * κ + k) * d + j) (pos 0) h inside

  pub t_of-digits : 2 ≤ b₁ → 0 < t₁ → (i k : ℕ) → i < r → k < κ
      → t_of d κ b₁ t₁ (el d (t_digits d n r κ b₁ t₁ A s)) i k ≡ Messages.t d n A s i k
  unfolding t_of part-digits
  t_of-digits two some i k h l =
      joined_cong d b₁ t₁ _ _ (λ e m. el-t_digits i e k h m l)
      ∙ joined-split d b₁ t₁ κ (elements d κ (Messages.t d n A s i)) (length-elements d κ (Messages.t d n A s i)) two some k l
      ∙ el-elements d κ (Messages.t d n A s i) k l

-- g and h
module _ (d r b t : ℕ) (x : ℕ → ℕ → (R d).Carrier) where
  abbrev pub pair-digits : ℕ → ℕ → List ℤ
  pair-digits i j = split b t (coeffs d (x i j))

  pub pair-length : (i j : ℕ) → i ≤ j → j < r → length (pair-digits i j) ≡ t * d
  pair-length i j _ _ = length-split b t (coeffs d (x i j)) ∙ ap (λ m. t * m) (length-coeffs d (x i j))

  pub length-garbage_digits : length (garbage_digits d r b t x) ≡ garbage_size r t * d
  unfolding garbage_digits garbage_size pairs
  length-garbage_digits = omega (arith, length_triangle r (t * d) pair-digits pair-length)

  el-garbage_digits : (i j e : ℕ) → i ≤ j → j < r → e < t
      → el d (garbage_digits d r b t x) (pair r i j * t + e) ≡ el d (pair-digits i j) (e * 1 + 0)
  unfolding garbage_digits
  el-garbage_digits i j e h l m = el_cong d (garbage_digits d r b t x) (pair-digits i j) (pair r i j * t + e) (e * 1 + 0) entry
    where
      entry : (k : ℕ) → k < d
          → get_or (garbage_digits d r b t x) ((pair r i j * t + e) * d + k) (pos 0) ≡ get_or (pair-digits i j) ((e * 1 + 0) * d + k) (pos 0)
      entry k g =
          let place : (pair r i j * t + e) * d + k ≡ pair r i j * (t * d) + (e * d + k) = omega arith in
          let digit-place : e * d + k ≡ (e * 1 + 0) * d + k = omega arith in
          ap (λ p. get_or (garbage_digits d r b t x) p (pos 0)) place
          ∙ get_d_triangle r (t * d) pair-digits pair-length i j (e * d + k) (pos 0) h l (block-fits t d e k m g)
          ∙ ap (λ p. get_or (pair-digits i j) p (pos 0)) digit-place

  pub garbage_of-digits : 2 ≤ b → 0 < t → (i j : ℕ) → i ≤ j → j < r
      → garbage_of d r b t (el d (garbage_digits d r b t x)) i j ≡ x i j
  unfolding garbage_of
  garbage_of-digits two some i j h l =
      let one-element : length (coeffs d (x i j)) ≡ 1 * d = omega (arith, length-coeffs d (x i j)) in
      joined_cong d b t _ _ (λ e m. el-garbage_digits i j e h l m)
      ∙ joined-split d b t 1 (coeffs d (x i j)) one-element two some 0 (omega arith)
      ∙ el-zero d (coeffs d (x i j))
      ∙ lift-coeffs d (x i j)

pub length-g_digits : (d n r b₂ t₂ : ℕ) (s : List ℤ) → length (g_digits d n r b₂ t₂ s) ≡ garbage_size r t₂ * d
unfolding g_digits
length-g_digits d n r b₂ t₂ s = length-garbage_digits d r b₂ t₂ _

pub length-h_digits : (d n r b₁ t₁ : ℕ) (φ : ℕ → ℕ → (R d).Carrier) (s : List ℤ) → length (h_digits d n r b₁ t₁ φ s) ≡ garbage_size r t₁ * d
unfolding h_digits
length-h_digits d n r b₁ t₁ φ s = length-garbage_digits d r b₁ t₁ _

-- ---- the messages before the opening

pub length-u₁ : (d r κ κ₁ t₁ t₂ : ℕ) (B C x y : List ℤ) → length (Messages.u₁ d r κ κ₁ t₁ t₂ B C x y) ≡ κ₁ * d
unfolding Messages.u₁
length-u₁ d r κ κ₁ t₁ t₂ B C x y = length-elements d κ₁ _

pub length-p : (d n r w : ℕ) (projections s : List ℤ) → length (Messages.p d n r w projections s) ≡ w
unfolding Messages.p
length-p d n r w projections s = length-tab w _

pub length-b'' : (d n r L w : ℕ) (constant_terms projections ψ ω s : List ℤ) → length (Messages.b'' d n r L w constant_terms projections ψ ω s) ≡ 5 * d
unfolding Messages.b''
length-b'' d n r L w constant_terms projections ψ ω s = length-elements d 5 _

pub length-u₂ : (d r κ₂ t₁ : ℕ) (D x : List ℤ) → length (Messages.u₂ d r κ₂ t₁ D x) ≡ κ₂ * d
unfolding Messages.u₂
length-u₂ d r κ₂ t₁ D x = length-elements d κ₂ _
