-- Laws of the numbers of a case.
use Rattle.std.specs.Prelude.{◌≡◌, Bool, true, false, cond, List, map, ℕ, ◌+◌, ◌≤◌, ◌<◌, leb, ℤ, pos, negsuc, nat_abs, length, get_or, set}
use Rattle.std.proofs.Math.Path.{refl}
use Rattle.std.proofs.Common.{sym, ap, ◌∙◌, zero-add, arith, SFits, le-leb, leb-true}
use Rattle.std.specs.Int.Signed.{lt_z}
use Rattle.std.specs.Int.{w32}
use Rattle.std.proofs.lemmas.Bool.{lt-leb}
use Rattle.integers.specs.Laws.Bridge.{P, lt_z-true, lt_z_false, zarith, pos_pn}
use Rattle.integers.specs.Lists.{tab}
use Rattle.integers.specs.Laws.ListLaws.{length-tab, tab_get_d, map-tab}
use Rattle.integers.specs.Over.{over}
use Rattle.integers.specs.Laws.OverLaws.{over-tab, over-all}
use Rattle.cases.specs.Numbers.{word, size_of, size_at}

-- ---- numbers of 32 bits

module _ (x : ℤ) where
  pub word-high : lt_z (pos 2147483647) x ≡ true → pos 2147483647 ≡ word x
  unfolding word
  word-high h = rw h refl

  pub word_low : lt_z (pos 2147483647) x ≡ false → lt_z x (negsuc 2147483647) ≡ true → negsuc 2147483647 ≡ word x
  unfolding word
  word_low h l = rw (h, l) refl

  pub word-itself : lt_z (pos 2147483647) x ≡ false → lt_z x (negsuc 2147483647) ≡ false → x ≡ word x
  unfolding word
  word-itself h l = rw (h, l) refl

  pub word_fits : lt_z (pos 2147483647) x ≡ false → lt_z x (negsuc 2147483647) ≡ false → SFits w32 x
  word_fits high low = omega (zarith, pos_pn 2147483647)

pub word-tab : (xs : List ℤ) → tab (length xs) (λ i. word (get_or xs i (pos 0))) ≡ map word xs
word-tab xs = sym (map-tab word (length xs) (λ i. get_or xs i (pos 0))) ∙ ap (λ (l : List ℤ). map word l) (tab_get_d xs (pos 0))

-- a list narrowed one number after another
module _ (wides words₀ words : List ℤ) (i : ℕ) (e : words ≡ over words₀ 0 (tab i (λ k. word (get_or wides k (pos 0))))) where
  pub narrow_next : i < length words₀ → {v : ℤ} → v ≡ word (get_or wides i (pos 0))
      → set words i v ≡ over words₀ 0 (tab (i + 1) (λ k. word (get_or wides k (pos 0))))
  narrow_next h {v} q =
      rw e (rw (zero-add i) at (over-tab words₀ 0 i (λ k. word (get_or wides k (pos 0))) v (omega arith) q))

  pub narrow-end : i ≡ length wides → length wides ≡ length words₀ → words ≡ map word wides
  narrow-end q fits =
      let whole : length (tab i (λ k. word (get_or wides k (pos 0)))) ≡ length words₀ =
      omega (arith, length-tab i (λ k. word (get_or wides k (pos 0)))) in
      e ∙ over-all words₀ _ whole ∙ ap (λ (k : ℕ). tab k (λ j. word (get_or wides j (pos 0)))) q ∙ word-tab wides

-- ---- sizes

pub size-negative : (most : ℕ) (x : ℤ) → lt_z x (pos 0) ≡ true → 0 ≡ size_of most x
unfolding size_of
size-negative most (pos n) h = let no : ⊥ = omega (arith, lt_z-true (pos n) (pos 0) h) in absurd no
size-negative most (negsuc n) h = refl

pub size_large : (most : ℕ) (x : ℤ) → lt_z x (pos 0) ≡ false → most < nat_abs x → 0 ≡ size_of most x
unfolding size_of
size_large most (pos n) h large = rw (lt-leb n most large) refl
size_large most (negsuc n) h large = let no : ⊥ = omega (arith, lt_z_false (negsuc n) (pos 0) h) in absurd no

pub size_fits : (most : ℕ) (x : ℤ) → lt_z x (pos 0) ≡ false → nat_abs x ≤ most → nat_abs x ≡ size_of most x
unfolding size_of
size_fits most (pos n) h fits = rw (le-leb n most fits) refl
size_fits most (negsuc n) h fits = let no : ⊥ = omega (arith, lt_z_false (negsuc n) (pos 0) h) in absurd no

bounded : (most n : ℕ) (t : Bool) → leb n most ≡ t → cond t n 0 ≤ most
bounded most n true e = leb-true n most e
bounded most n false e = omega arith

size_of_bound : (most : ℕ) (x : ℤ) → size_of most x ≤ most
unfolding size_of
size_of_bound most (pos n) = bounded most n (leb n most) refl
size_of_bound most (negsuc n) = omega arith

pub size-bound : (most : ℕ) (xs : List ℤ) (k : ℕ) → size_at most xs k ≤ most
unfolding size_at
size-bound most xs k = size_of_bound most (get_or xs k (pos 0))

-- ---- the positive part

pub positive-none : (x : ℤ) → lt_z x (pos 0) ≡ true → 0 ≡ P x
positive-none (pos n) h = omega (arith, lt_z-true (pos n) (pos 0) h)
positive-none (negsuc n) h = refl

pub positive-some : (x : ℤ) → lt_z x (pos 0) ≡ false → nat_abs x ≡ P x
positive-some (pos n) h = refl
positive-some (negsuc n) h = let no : ⊥ = omega (arith, lt_z_false (negsuc n) (pos 0) h) in absurd no
