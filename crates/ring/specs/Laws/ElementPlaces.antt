-- Elements laid out one after the other in a list, d numbers to each: element p stands at place p * d.
--     block-before .. digit-fits            what stands within a list, by how many elements it has room for
--     coeff-el, el-zero, el-drop, el-take   elements of a list and of its parts
--     el_overs                              elements stored from a place on
--     el-flat, el-flat-coeffs               elements of a list that is given element by element
use Rattle.std.specs.Prelude.{◌≡◌, ℕ, ◌+◌, ◌-◌, ◌*◌, ◌<◌, ◌≤◌, List, length, take, drop, ℤ, pos, slice_index_or}
use Rattle.std.proofs.Math.Path.{sym, ap}
use Rattle.std.proofs.Common.{◌∙◌, add-mul, add_assoc, mul-le-mul_right, arith, drop-drop, get_or-take}
use Rattle.std.proofs.Math.Nat.{zero-mul}
use Rattle.std.proofs.Math.Seq.{get_or-drop}
use Rattle.integers.specs.Over.{over}
use Rattle.integers.specs.Laws.OverLaws.{get_d_over}
use Rattle.integers.specs.Flat.{flat}
use Rattle.integers.specs.Laws.FlatLaws.{get_d_flat}
use Rattle.algebra.specs.Polynomial.{coeff}
use Rattle.residues.specs.Modulus.{Zq, red}
use Rattle.residues.proofs.Laws.DigitBlockLaws.{last_fits}
use Rattle.ring.specs.Element.{R, lift, el, coeffs}
use Rattle.ring.specs.Laws.ElementLaws.{coeff-lift, lift_cong, lift-coeffs, length-coeffs}

-- ---- within a list of `len` numbers

-- block p, of d numbers, stands before block n
pub block-before : (d p n : ℕ) → p < n → p * d + d ≤ n * d
block-before d p n h = omega (arith, mul-le-mul_right d h)

-- an element's place is no greater than that of its numbers
pub place-below : (d x : ℕ) {len : ℕ} → 0 < d → x * d ≤ len → x ≤ len
place-below d x h e = omega (arith, mul-le-mul_right x h)

pub element-below : (d x : ℕ) {len : ℕ} → 0 < d → x * d + d ≤ len → x < len
element-below d x h e = omega (arith, mul-le-mul_right x h)

-- element k of n
pub element-within : (d : ℕ) {k n len : ℕ} → k < n → n * d ≤ len → k * d + d ≤ len
element-within d {k} {n} h e = omega (arith, block-before d k n h)

-- element k of those from element a on
pub element-fits : (d a : ℕ) {k n len : ℕ} → k < n → (a + n) * d ≤ len → (a + k) * d + d ≤ len
element-fits d a {k} {n} h e = omega (arith, block-before d k n h)

-- row i of r rows of n elements, and its place
pub row_fits : (d n : ℕ) {r i len : ℕ} → i < r → r * n * d ≤ len → (i * n + n) * d ≤ len
row_fits d n {r} {i} h e = omega (arith, mul-le-mul_right d (block-before n i r h))

pub row_below : (d n : ℕ) {r i len : ℕ} → 0 < d → i < r → r * n * d ≤ len → i * n + n ≤ len
row_below d n {i = i} some h e = place-below d (i * n + n) some (row_fits d n h e)

-- the last of t parts of n elements
pub last-place : (d n t : ℕ) {len : ℕ} → 0 < t → len ≡ t * (n * d) → ((t - 1) * n + n) * d ≤ len
last-place d n t h e = omega (arith, last_fits t (n * d) h)

pub block-below : (w t : ℕ) {len : ℕ} → 0 < t → len ≡ t * w → w ≤ len
block-below w t h e = omega (arith, mul-le-mul_right w h)

-- digit e of those that start at element p, `stride` elements apart, ends before a later one does
pub digit-fits : (d p stride : ℕ) {e f len : ℕ} → e ≤ f → (p + f * stride) * d + d ≤ len → (p + e * stride) * d + d ≤ len
digit-fits d p stride {e} {f} h l = omega (arith, mul-le-mul_right d (mul-le-mul_right stride h))

-- ---- elements of a list

module _ (d : ℕ) where
  pub coeff-el : (xs : List ℤ) (p k : ℕ) → k < d → coeff Zq (el d xs p) k ≡ red (slice_index_or xs (p * d + k) (pos 0))
  unfolding el
  coeff-el xs p k h = coeff-lift d (drop (p * d) xs) k h ∙ ap red (get_or-drop (p * d) xs k (pos 0))

  -- lists that agree at an element's numbers
  pub el_cong : (xs ys : List ℤ) (p r : ℕ) → ((k : ℕ) → k < d → slice_index_or xs (p * d + k) (pos 0) ≡ slice_index_or ys (r * d + k) (pos 0))
      → el d xs p ≡ el d ys r
  unfolding el
  el_cong xs ys p r h =
      lift_cong d _ _ (λ k l. get_or-drop (p * d) xs k (pos 0) ∙ h k l ∙ sym (get_or-drop (r * d) ys k (pos 0)))

  el-lift : (xs ys : List ℤ) (p : ℕ) → ((k : ℕ) → k < d → slice_index_or xs (p * d + k) (pos 0) ≡ slice_index_or ys k (pos 0)) → el d xs p ≡ lift d ys
  unfolding el
  el-lift xs ys p h = lift_cong d _ _ (λ k l. get_or-drop (p * d) xs k (pos 0) ∙ h k l)

  -- ---- parts of a list

  pub el-zero : (xs : List ℤ) → el d xs 0 ≡ lift d xs
  unfolding el
  el-zero xs = rw zero-mul

  pub el-drop : (xs : List ℤ) (a k : ℕ) → el d (drop (a * d) xs) k ≡ el d xs (a + k)
  unfolding el
  el-drop xs a k = rw (drop-drop, ← (add-mul a k d))

  pub el-take : (xs : List ℤ) (n p : ℕ) → p * d + d ≤ n → el d (take n xs) p ≡ el d xs p
  el-take xs n p h = el_cong (take n xs) xs p p (λ k l. get_or-take n xs (p * d + k) (pos 0) (omega arith))

  -- element k of n from place a on, as a part of a slice is cut
  pub el-part : (xs : List ℤ) (a n k : ℕ) → k < n → el d (take (n * d) (drop (a * d) xs)) k ≡ el d xs (a + k)
  el-part xs a n k h = el-take (drop (a * d) xs) (n * d) k (block-before d k n h) ∙ el-drop xs a k

  -- ---- elements that were stored

  -- l holds n elements
  pub el_overs : (out l : List ℤ) (a n k : ℕ) → a * d ≤ length out → length l ≡ n * d → k < n → el d (over out (a * d) l) (a + k) ≡ el d l k
  el_overs out l a n k h e b = el_cong (over out (a * d) l) l (a + k) k entry
    where
      entry : (j : ℕ) → j < d → slice_index_or (over out (a * d) l) ((a + k) * d + j) (pos 0) ≡ slice_index_or l (k * d + j) (pos 0)
      entry j q = rw (add-mul a k d, add_assoc (a * d) (k * d) j)
          (get_d_over out (a * d) l (k * d + j) (pos 0) h (omega (arith, block-before d k n b)))

  -- ---- a list given element by element

  pub el-flat : (n : ℕ) (F : ℕ → List ℤ) → ((i : ℕ) → i < n → length (F i) ≡ d) → (p : ℕ) → p < n → el d (flat n F) p ≡ lift d (F p)
  el-flat n F wide p h = el-lift (flat n F) (F p) p (λ k l. get_d_flat n d F wide p k (pos 0) h l)

  pub el-flat-coeffs : (n : ℕ) (f : ℕ → (R d).Carrier) (p : ℕ) → p < n → el d (flat n (λ i. coeffs d (f i))) p ≡ f p
  el-flat-coeffs n f p h = el-flat n (λ i. coeffs d (f i)) (λ i _. length-coeffs d (f i)) p h ∙ lift-coeffs d (f p)
