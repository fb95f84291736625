-- Laws of the lists of a case.
use Rattle.std.specs.Prelude.{◌≡◌, refl, List, [], ℕ, ◌+◌, ◌-◌, ◌≤◌, ◌<◌, ℤ, pos, length, set, take, drop}
use Rattle.std.proofs.Common.{sym, ◌∙◌, add-one, arith, length-drop, drop_of_length-le, drop-drop, take_all}
use Rattle.std.proofs.Math.Path.{ap}
use Rattle.std.proofs.Math.Nat.{sub-zero}
use Rattle.std.proofs.Math.ListN.{get_or}
use Rattle.integers.specs.Lists.{tab}
use Rattle.integers.specs.Over.{over}
use Rattle.integers.specs.Laws.OverLaws.{over-tab}
use Rattle.cases.specs.Numbers.{padded}
use Rattle.cases.specs.Laws.NumberLaws.{size-bound}
use Rattle.cases.specs.Lists.{first_size, first_width, first_list, past_list, past_lists}

-- what follows the first numbers, where there are none and where the slice is cut
pub past-none {ℓ} : {A : Type ℓ} (k : ℕ) (xs : List A) → length xs < k → [] ≡ drop k xs
past-none k xs h = let le : length xs ≤ k = omega arith in sym (drop_of_length-le xs le)

pub past-some {ℓ} : {A : Type ℓ} (k : ℕ) (xs : List A) → take (length xs - k) (drop k xs) ≡ drop k xs
past-some k xs = take_all (length xs - k) (drop k xs) (omega (arith, length-drop k xs))

pub size_none : (xs : List ℤ) → length xs ≡ 0 → 0 ≡ first_size xs
unfolding first_size
size_none xs e = omega (arith, size-bound (length xs - 1) xs 0)

pub size-inside : (xs : List ℤ) → first_size xs ≤ length xs - 1
unfolding first_size
size-inside xs = size-bound (length xs - 1) xs 0

-- the place after one more list, of which the slice from `at` on tells the width
pub width_fits : (xs : List ℤ) (at : ℕ) {w : ℕ} → at ≤ length xs → w ≡ first_width (take (length xs - at) (drop at xs))
    → at + w ≤ length xs
unfolding first_width
width_fits xs at h e = omega (arith, e, ap (λ (l : List ℤ). length l) (past-some at xs), length-drop at xs)

pub lists-next : (xs : List ℤ) (count at : ℕ) {w : ℕ} → drop at xs ≡ past_lists count xs
    → w ≡ first_width (take (length xs - at) (drop at xs)) → drop (at + w) xs ≡ past_lists (count + 1) xs
unfolding past_lists past_list
lists-next xs count at {w} e f =
    let width : w ≡ first_width (drop at xs) = f ∙ ap first_width (past-some at xs) in
    rw (add-one count, ← e, width) (sym (drop-drop (first_width (drop at xs)) at xs))

-- the first list as a part of what follows its length
pub list-fits : (xs : List ℤ) {ys : List ℤ} {n : ℕ} → n ≡ first_size xs → ys ≡ drop 1 xs → n ≤ length ys
list-fits xs e f = omega (arith, size-inside xs, length-drop 1 xs, ap (λ (l : List ℤ). length l) f)

pub list-is : (xs : List ℤ) {ys : List ℤ} {n : ℕ} → n ≡ first_size xs → ys ≡ drop 1 xs → take (n - 0) ys ≡ first_list xs
unfolding first_list
list-is xs e f = rw (sub-zero, e, f) refl

-- ---- numbers put into a list, one after another

module _ (out₀ out part : List ℤ) (at i : ℕ) (e : out ≡ over out₀ at (tab i (λ k. get_or part k (pos 0)))) where
  pub put_next : at + i < length out₀ → {v : ℤ} → v ≡ get_or part i (pos 0)
      → set out (at + i) v ≡ over out₀ at (tab (i + 1) (λ k. get_or part k (pos 0)))
  put_next h {v} q = rw e (over-tab out₀ at i (λ k. get_or part k (pos 0)) v h q)

  pub put-end : {n : ℕ} → i ≡ n → out ≡ over out₀ at (padded n part)
  unfolding padded
  put-end q = e ∙ ap (λ (k : ℕ). over out₀ at (tab k (λ j. get_or part j (pos 0)))) q
