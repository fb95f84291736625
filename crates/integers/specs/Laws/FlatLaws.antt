-- Laws of lists laid out one after the other. Where all of them have length m, block i stands at place i * m.
use Rattle.std.specs.Prelude.{◌≡◌, length, get_or, take, drop, ℤ}
use Rattle.std.proofs.Math.Path.{refl}
use Rattle.std.proofs.Common.{sym, ◌∙◌, add-zero, lt-suc_self, mul-le-mul_right, add-one, take_at, drop_at, take_all, get_or-take, get_or-drop}
use mathlib.Core.List.{List, ◌++◌, append_assoc, append-nil}
use Prim.Native.Nat.{ℕ, zero, suc, ◌+◌, ◌-◌, ◌*◌, ◌≤◌, ◌<◌}
use Rattle.std.proofs.Math.Nat.{add-suc, add-sub_of_le, le_step, zero-mul, suc-mul}
use native.Mathlib.Omega.{arith}
use Rattle.std.proofs.Math.ListN.{length-append}
use Rattle.std.proofs.Math.Seq.{take-add}
use Rattle.integers.specs.Sums.{total, norm_sq}
use Rattle.integers.specs.Laws.SumLaws.{norm_sq-append}
use Rattle.integers.specs.Over.{over}
use Rattle.integers.specs.Laws.OverLaws.{over-over}
use Rattle.integers.specs.Flat.{flat}

-- block i of m elements lies within the first n blocks
pub block-fits : (n m i j : ℕ) → i < n → j < m → i * m + j < n * m
block-fits n m i j h k = omega (arith, mul-le-mul_right m h)

module _ {ℓ} {A : Type ℓ} where
  pub flat-suc : (n : ℕ) (F : ℕ → List A) → flat (suc n) F ≡ flat n F ++ F n
  unfolding flat
  flat-suc n F = refl

  pub flat_cong : (n : ℕ) (F G : ℕ → List A) → ((i : ℕ) → i < n → F i ≡ G i) → flat n F ≡ flat n G
  unfolding flat
  flat_cong zero F G e = refl
  flat_cong (suc n) F G e = cc (flat_cong n F G (λ i h. e i (le_step h)), e n (lt-suc_self n))

  -- ---- length

  pub length-flat : (n m : ℕ) (F : ℕ → List A) → ((i : ℕ) → i < n → length (F i) ≡ m) → length (flat n F) ≡ n * m
  unfolding flat
  length-flat zero m F e = omega arith
  length-flat (suc n) m F e =
      omega (arith, length-append (flat n F) (F n), length-flat n m F (λ i h. e i (le_step h)), e n (lt-suc_self n))

  -- ---- the blocks before and after a place

  pub flat_append : (m n : ℕ) (F : ℕ → List A) → flat (m + n) F ≡ flat m F ++ flat n (λ i. F (m + i))
  unfolding flat
  flat_append m zero F = rw (add-zero m) (sym (append-nil (flat m F)))
  flat_append m (suc n) F = rw add-suc (cc (flat_append m n F, append_assoc (flat m F) (flat n (λ i. F (m + i))) (F (m + n))))

  pub flat-at : (n i : ℕ) (F : ℕ → List A) → i < n → flat n F ≡ flat i F ++ (F i ++ flat (n - suc i) (λ j. F (suc i + j)))
  unfolding flat
  flat-at n i F h =
      let rest = flat (n - suc i) (λ j. F (suc i + j)) in
      cc (flat_append (suc i) (n - suc i) F, add-sub_of_le h, append_assoc (flat i F) (F i) rest)

  -- ---- one block, where all have length m

  module _ (n m : ℕ) (F : ℕ → List A) (wide : (i : ℕ) → i < n → length (F i) ≡ m) where
    length_before : (i : ℕ) → i ≤ n → length (flat i F) ≡ i * m
    length_before i h = length-flat i m F (λ j k. wide j (omega arith))

    pub block-flat : (i : ℕ) → i < n → take m (drop (i * m) (flat n F)) ≡ F i
    block-flat i h =
        let rest = flat (n - suc i) (λ j. F (suc i + j)) in
        let before : i ≤ n = omega arith in
        cc (flat-at n i F h, drop_at (flat i F) (F i ++ rest) (i * m) (length_before i before), take_at (F i) rest m (wide i h))

    pub get_d_flat : (i j : ℕ) (z : A) → i < n → j < m → get_or (flat n F) (i * m + j) z ≡ get_or (F i) j z
    get_d_flat i j z h k = cc (block-flat i h, get_or-take m (drop (i * m) (flat n F)) j z k, get_or-drop (i * m) (flat n F) j z)

  -- a list cut into blocks and laid out again
  pub flat_blocks : (n m : ℕ) (xs : List A) → flat n (λ i. take m (drop (i * m) xs)) ≡ take (n * m) xs
  unfolding flat
  flat_blocks zero m xs = rw zero-mul
  flat_blocks (suc n) m xs = cc (flat_blocks n m xs, suc-mul n m, take-add (n * m) m xs)

  pub flat-cut : (n m : ℕ) (xs : List A) → length xs ≡ n * m → flat n (λ i. take m (drop (i * m) xs)) ≡ xs
  flat-cut n m xs e = flat_blocks n m xs ∙ take_all (n * m) xs (omega arith)

  -- ---- one more block written

  pub over-flat : (out : List A) (a k m : ℕ) (F : ℕ → List A) → ((i : ℕ) → i < k → length (F i) ≡ m) → a ≤ length out
      → over (over out a (flat k F)) (a + k * m) (F k) ≡ over out a (flat (k + 1) F)
  over-flat out a k m F e h = cc (over-over out a (flat k F) (F k) h, length-flat k m F e, flat-suc k F, add-one k)

pub norm_sq-flat : (n : ℕ) (F : ℕ → List ℤ) → norm_sq (flat n F) ≡ total n (λ i. norm_sq (F i))
unfolding flat total norm_sq
norm_sq-flat zero F = refl
norm_sq-flat (suc n) F = omega (arith, norm_sq-append (flat n F) (F n), norm_sq-flat n F)
