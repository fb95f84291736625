-- What stands where in the flat lists of the fold.
--     get_d_flat-start       blocks of widths w 0, w 1, ..: block i starts at start w i
--     get_d_triangle         blocks of one width m for the pairs i ≤ j: that of (i, j) starts at pair r i j * m
--     el-append, el-after   elements of two lists laid out one after the other
use Rattle.std.specs.Prelude.{◌≡◌, List, ◌++◌, ℕ, zero, suc, ◌+◌, ◌-◌, ◌*◌, ◌≤◌, ◌<◌, length, ℤ, pos}
use Rattle.std.proofs.Common.{sym, ◌∙◌, add-mul, zero-mul, add-sub_of_le, get_or-append-add, drop_at}
use Rattle.std.proofs.Math.Path.{ap}
use Rattle.std.proofs.Math.Nat.{mul-le-mul_right}
use native.Mathlib.Omega.{arith}
use Rattle.std.proofs.Math.ListN.{get_or, get_or-append}
use Rattle.integers.specs.Flat.{flat}
use Rattle.integers.specs.Laws.FlatLaws.{flat-at, length-flat, get_d_flat}
use Rattle.algebra.specs.Laws.Tables.{length-flat-start}
use Rattle.algebra.specs.Triangle.{start, pair, pairs-count}
use Rattle.ring.specs.Element.{el}
use Rattle.ring.specs.Laws.ElementPlaces.{el_cong, el-drop}

start-scale : (w : ℕ → ℕ) (m n : ℕ) → start (λ i. w i * m) n ≡ start w n * m
unfolding start
start-scale w m zero = sym (zero-mul m)
start-scale w m (suc n) = ap (λ x. x + w n * m) (start-scale w m n) ∙ sym (add-mul (start w n) (w n) m)

module _ {ℓ} {A : Type ℓ} where
  pub get_d_flat-start : (n : ℕ) (w : ℕ → ℕ) (F : ℕ → List A) → ((i : ℕ) → i < n → length (F i) ≡ w i)
      → (i j : ℕ) (z : A) → i < n → j < w i → get_or (flat n F) (start w i + j) z ≡ get_or (F i) j z
  get_d_flat-start n w F wide i j z h l =
      let rest = flat (n - suc i) (λ k. F (suc i + k)) in
      let before : length (flat i F) ≡ start w i = length-flat-start i w F (λ k b. wide k (omega arith)) in
      ap (λ (xs : List A). get_or xs (start w i + j) z) (flat-at n i F h)
      ∙ ap (λ a. get_or (flat i F ++ (F i ++ rest)) (a + j) z) (sym before)
      ∙ get_or-append-add (flat i F) (F i ++ rest) j z
      ∙ get_or-append (F i) rest z j (omega (arith, wide i h))

  module _ (r m : ℕ) (G : ℕ → ℕ → List A) (wide : (i j : ℕ) → i ≤ j → j < r → length (G i j) ≡ m) where
    row-length : (i : ℕ) → i < r → length (flat (r - i) (λ k. G i (i + k))) ≡ (r - i) * m
    row-length i h = length-flat (r - i) m (λ k. G i (i + k)) (λ k l. wide i (i + k) (omega arith) (omega arith))

    pub length_triangle : length (flat r (λ i. flat (r - i) (λ k. G i (i + k)))) ≡ pairs-count r * m
    unfolding pairs-count
    length_triangle =
        length-flat-start r (λ i. (r - i) * m) (λ i. flat (r - i) (λ k. G i (i + k))) row-length ∙ start-scale (λ i. r - i) m r

    pub get_d_triangle : (i j y : ℕ) (z : A) → i ≤ j → j < r → y < m
        → get_or (flat r (λ i. flat (r - i) (λ k. G i (i + k)))) (pair r i j * m + y) z ≡ get_or (G i j) y z
    unfolding pair
    get_d_triangle i j y z h l b =
        let s = start (λ k. r - k) i in
        let first : i < r = omega arith in
        let column : j - i < r - i = omega arith in
        let place : (s + (j - i)) * m + y ≡ start (λ k. (r - k) * m) i + ((j - i) * m + y) =
        rw (start-scale (λ k. r - k) m i) (omega arith) in
        let inside : (j - i) * m + y < (r - i) * m = omega (arith, mul-le-mul_right m column) in
        ap (λ p. get_or (flat r (λ i. flat (r - i) (λ k. G i (i + k)))) p z) place
        ∙ get_d_flat-start r (λ k. (r - k) * m) (λ i. flat (r - i) (λ k. G i (i + k))) row-length i ((j - i) * m + y) z first inside
        ∙ get_d_flat (r - i) m (λ k. G i (i + k)) (λ k c. wide i (i + k) (omega arith) (omega arith)) (j - i) y z column b
        ∙ ap (λ k. get_or (G i k) y z) (add-sub_of_le h)

module _ (d : ℕ) where
  -- an element of the first list, and one of the second, which starts at place a
  pub el-append : (xs ys : List ℤ) (n p : ℕ) → length xs ≡ n * d → p < n → el d (xs ++ ys) p ≡ el d xs p
  el-append xs ys n p e h =
      el_cong d (xs ++ ys) xs p p (λ k l. get_or-append xs ys (pos 0) (p * d + k) (omega (arith, mul-le-mul_right d h)))

  pub el-after : (xs ys : List ℤ) (a p : ℕ) → length xs ≡ a * d → el d (xs ++ ys) (a + p) ≡ el d ys p
  el-after xs ys a p e = sym (el-drop d (xs ++ ys) a p) ∙ ap (λ zs. el d zs p) (drop_at xs ys (a * d) e)
