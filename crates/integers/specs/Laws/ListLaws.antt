-- Laws of lists described by index.
-- A loop that fills an array of z by value has the invariant `xs ≡ tab n (upto k f z)`, by fill_start, fill_step and fill_end.
use Rattle.std.specs.Prelude.{◌≡◌, ◌≢◌, Bool, true, false, ltb, length, get_or, take, drop, set, replicate}
use Rattle.std.proofs.Math.Path.{refl, ap}
use Rattle.std.proofs.Common.{sym, ◌∙◌, le_of_suc-le-suc, suc-add, zero-add, length-drop, take_all, ltb-true, ltb-false, lt-ltb, le-ltb}
use mathlib.Core.List.{List, [], ◌∷◌, ◌++◌, map}
use Prim.Native.Nat.{ℕ, zero, suc, ◌+◌, ◌-◌, ◌≤◌, ◌<◌}
use Rattle.std.proofs.Math.Nat.{suc-sub-suc, sub-zero, suc_inj}
use native.Mathlib.Omega.{arith}
use Rattle.integers.specs.Lists.{tab, upto}

module _ {ℓ} {A : Type ℓ} where
  -- ---- length, elements, equality

  pub length-tab : (n : ℕ) (f : ℕ → A) → length (tab n f) ≡ n
  unfolding tab
  length-tab zero f = refl
  length-tab (suc n) f = ap suc (length-tab n (λ i. f (suc i)))

  pub get_d_tab : (n : ℕ) (f : ℕ → A) (i : ℕ) (z : A) → i < n → get_or (tab n f) i z ≡ f i
  unfolding tab
  get_d_tab zero f i z h = let no : ⊥ = omega arith in absurd no
  get_d_tab (suc n) f zero z h = refl
  get_d_tab (suc n) f (suc i) z h = get_d_tab n (λ j. f (suc j)) i z (le_of_suc-le-suc h)

  pub tab_cong : (n : ℕ) (f g : ℕ → A) → ((i : ℕ) → i < n → f i ≡ g i) → tab n f ≡ tab n g
  unfolding tab
  tab_cong zero f g e = refl
  tab_cong (suc n) f g e = cc (e 0 (omega arith), tab_cong n (λ i. f (suc i)) (λ i. g (suc i)) (λ i h. e (suc i) (omega arith)))

  -- a list is the list of its elements
  pub tab_get_d : (xs : List A) (z : A) → tab (length xs) (λ i. get_or xs i z) ≡ xs
  unfolding tab
  tab_get_d [] z = refl
  tab_get_d (x ∷ xs) z = ap (λ (l : List A). x ∷ l) (tab_get_d xs z)

  pub tab_unique : (xs : List A) (n : ℕ) (f : ℕ → A) (z : A) → length xs ≡ n → ((i : ℕ) → i < n → get_or xs i z ≡ f i) → xs ≡ tab n f
  tab_unique xs n f z e h = sym (tab_get_d xs z) ∙ rw e (tab_cong n (λ i. get_or xs i z) f h)

  pub tab_const : (n : ℕ) (z : A) → tab n (λ i. z) ≡ replicate n z
  unfolding tab
  tab_const zero z = refl
  tab_const (suc n) z = ap (λ (l : List A). z ∷ l) (tab_const n z)

  -- ---- parts

  pub take-tab : (m n : ℕ) (f : ℕ → A) → m ≤ n → take m (tab n f) ≡ tab m f
  unfolding tab
  take-tab zero n f h = refl
  take-tab (suc m) zero f h = let no : ⊥ = omega arith in absurd no
  take-tab (suc m) (suc n) f h = ap (λ (l : List A). f 0 ∷ l) (take-tab m n (λ i. f (suc i)) (le_of_suc-le-suc h))

  pub tab-suc : (n : ℕ) (f : ℕ → A) → tab (suc n) f ≡ tab n f ++ (f n ∷ [])
  unfolding tab
  tab-suc zero f = refl
  tab-suc (suc n) f = ap (λ (l : List A). f 0 ∷ l) (tab-suc n (λ i. f (suc i)))

  pub drop-tab : (m n : ℕ) (f : ℕ → A) → m ≤ n → drop m (tab n f) ≡ tab (n - m) (λ i. f (m + i))
  unfolding tab
  drop-tab zero n f h = simp (zero-add, sub-zero)
  drop-tab (suc m) zero f h = let no : ⊥ = omega arith in absurd no
  drop-tab (suc m) (suc n) f h = simp (suc-add, suc-sub-suc) (drop-tab m n (λ i. f (suc i)) (le_of_suc-le-suc h))

  -- ---- one element changed

  pub set-tab : (n k : ℕ) (f g : ℕ → A) (v : A) → k < n → v ≡ g k → ((i : ℕ) → i ≢ k → f i ≡ g i) → set (tab n f) k v ≡ tab n g
  unfolding tab
  set-tab zero k f g v h e d = let no : ⊥ = omega arith in absurd no
  set-tab (suc n) zero f g v h e d = cc (e, tab_cong n (λ i. f (suc i)) (λ i. g (suc i)) (λ i b. d (suc i) (omega arith)))
  set-tab (suc n) (suc k) f g v h e d =
      cc (
        d 0 (omega arith),
        set-tab n k (λ i. f (suc i)) (λ i. g (suc i)) v (le_of_suc-le-suc h) e (λ i ne. d (suc i) (λ q. ne (suc_inj q))),
      )

  -- ---- an array that a loop fills

  pub upto-below : (k : ℕ) (f : ℕ → A) (z : A) (i : ℕ) → i < k → upto k f z i ≡ f i
  unfolding upto
  upto-below k f z i h = rw (lt-ltb i k h)

  pub upto-above : (k : ℕ) (f : ℕ → A) (z : A) (i : ℕ) → k ≤ i → upto k f z i ≡ z
  unfolding upto
  upto-above k f z i h = rw (le-ltb i k h)

  upto-other : (k : ℕ) (f : ℕ → A) (z : A) (i : ℕ) (t : Bool) → ltb i k ≡ t → i ≢ k → upto k f z i ≡ upto (k + 1) f z i
  upto-other k f z i true e d = upto-below k f z i (ltb-true i k e) ∙ sym (upto-below (k + 1) f z i (omega (arith, ltb-true i k e)))
  upto-other k f z i false e d = upto-above k f z i (ltb-false i k e) ∙ sym (upto-above (k + 1) f z i (omega (arith, ltb-false i k e)))

  pub fill_start : (n : ℕ) (f : ℕ → A) (z : A) → replicate n z ≡ tab n (upto 0 f z)
  fill_start n f z = sym (tab_const n z) ∙ tab_cong n (λ i. z) (upto 0 f z) (λ i h. sym (upto-above 0 f z i (omega arith)))

  pub fill_step : (n k : ℕ) (f : ℕ → A) (z v : A) (xs : List A) → xs ≡ tab n (upto k f z) → k < n → v ≡ f k
      → set xs k v ≡ tab n (upto (k + 1) f z)
  fill_step n k f z v xs e h q =
      rw e (set-tab n k (upto k f z) (upto (k + 1) f z) v h (q ∙ sym (upto-below (k + 1) f z k (omega arith)))
      (λ i d. upto-other k f z i (ltb i k) refl d))

  pub fill_end : (n : ℕ) (f : ℕ → A) (z : A) → tab n (upto n f z) ≡ tab n f
  fill_end n f z = tab_cong n (upto n f z) f (λ i h. upto-below n f z i h)

pub map-tab {ℓ ℓ'} : {A : Type ℓ} {B : Type ℓ'} (g : A → B) (n : ℕ) (f : ℕ → A) → map g (tab n f) ≡ tab n (λ i. g (f i))
unfolding tab
map-tab g zero f = refl
map-tab {B} g (suc n) f = ap (λ (l : List B). g (f 0) ∷ l) (map-tab g n (λ i. f (suc i)))

-- ---- the rest of a list from a place on, as a slice is cut

pub rest_all : {A : Type 0} (xs : List A) (at : ℕ) → take (length xs - at) (drop at xs) ≡ drop at xs
rest_all xs at = take_all (length xs - at) (drop at xs) (omega (arith, length-drop at xs))
