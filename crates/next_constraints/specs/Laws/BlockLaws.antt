-- Laws of tables as numbers, and of the loops that write them.
--     flat_map_append .. flat_map_list      lists that stand for the entries of a list, one after the other
--     numbers-append .. el-numbers        the same for the elements of a table
--     ElementBlocks                       the invariant of a loop that writes blocks of w elements each: its start, its turn and its end
--     row-once, length-row                a row of elements
--     length-z, length-t, length-garbage  how long the blocks are
--     garbage-parts                       garbage elements are parts of one row
use Rattle.std.specs.Prelude.{◌≡◌, length, get_or, ℤ, pos}
use Rattle.std.proofs.Math.Path.{refl, sym, ap}
use Rattle.std.proofs.Common.{ap₂, ◌∙◌, mul-le-mul_right, arith}
use mathlib.Core.List.{List, [], ◌∷◌, ◌++◌, append_assoc, append-nil, flat_map}
use Prim.Native.Nat.{ℕ, zero, suc, ◌+◌, ◌-◌, ◌*◌, ◌≤◌, ◌<◌}
use Rattle.std.proofs.Math.Nat.{add-sub_cancel_left}
use Rattle.integers.specs.Lists.{tab}
use Rattle.integers.specs.Laws.ListLaws.{length-tab, tab-suc, tab_get_d, tab_const}
use Rattle.integers.specs.Over.{over}
use Rattle.integers.specs.Flat.{flat}
use Rattle.integers.specs.Laws.OverLaws.{over-nil, length_over}
use Rattle.integers.specs.Laws.FlatLaws.{flat_cong, length-flat, over-flat}
use Rattle.algebra.specs.Triangle.{start, pair, pairs-count}
use Rattle.ring.specs.Element.{R, Degree, el, coeffs, number}
use Rattle.ring.specs.Laws.ElementLaws.{length-coeffs}
use Rattle.ring.specs.Laws.ElementPlaces.{place-below, el-flat-coeffs}
use Rattle.ring.specs.Laws.Numbers.{number-one}
use Rattle.fold.specs.Sizes.{pairs, t_size, garbage_size}
use Rattle.fold.specs.Messages.{elements}
use Rattle.fold.proofs.Laws.TableSums.{length_digits, length-parts, length_triangle}
use Rattle.fold.proofs.Laws.WriterLaws.{flat_start}
use Rattle.fold.specs.NextInstance.{power, zeros, z_table, t_table, garbage_table}
use Rattle.next_constraints.specs.declared.blocks.Digits.{Digits}
use Rattle.next_constraints.specs.Blocks.{numbers, digit_row}

-- ---- lists that stand for the entries of a list

module _ {ℓ κ} {A : Type ℓ} {B : Type κ} (f : A → List B) where
  pub flat_map_append : (xs ys : List A) → flat_map f (xs ++ ys) ≡ flat_map f xs ++ flat_map f ys
  unfolding flat_map
  flat_map_append [] ys = refl
  flat_map_append (x ∷ xs) ys = ap (λ zs. f x ++ zs) (flat_map_append xs ys) ∙ sym (append_assoc (f x) (flat_map f xs) (flat_map f ys))

  flat_map_one : (x : A) → flat_map f (x ∷ []) ≡ f x
  unfolding flat_map
  flat_map_one x = append-nil (f x)

  pub flat_map_cons : (x : A) (xs : List A) → flat_map f (x ∷ xs) ≡ f x ++ flat_map f xs
  unfolding flat_map
  flat_map_cons x xs = refl

  flat_map_none : (g : ℕ → A) → flat_map f (tab 0 g) ≡ flat 0 (λ i. f (g i))
  unfolding flat_map tab flat
  flat_map_none g = refl

  flat-more : (n : ℕ) (F : ℕ → List B) → flat n F ++ F n ≡ flat (suc n) F
  unfolding flat
  flat-more n F = refl

  pub flat_map_tab : (n : ℕ) (g : ℕ → A) → flat_map f (tab n g) ≡ flat n (λ i. f (g i))
  flat_map_tab zero g = flat_map_none g
  flat_map_tab (suc n) g =
      ap (flat_map f) (tab-suc n g)
      ∙ flat_map_append (tab n g) (g n ∷ [])
      ∙ ap₂ ◌++◌ (flat_map_tab n g) (flat_map_one (g n))
      ∙ flat-more n (λ i. f (g i))

  pub flat_map_flat : (n : ℕ) (F : ℕ → List A) → flat_map f (flat n F) ≡ flat n (λ i. flat_map f (F i))
  unfolding flat flat_map
  flat_map_flat zero F = refl
  flat_map_flat (suc n) F = flat_map_append (flat n F) (F n) ∙ ap (λ xs. xs ++ flat_map f (F n)) (flat_map_flat n F)

  pub flat_map_list : (xs : List A) (z : A) → flat_map f xs ≡ flat (length xs) (λ i. f (get_or xs i z))
  flat_map_list xs z = ap (flat_map f) (sym (tab_get_d xs z)) ∙ flat_map_tab (length xs) (λ i. get_or xs i z)

-- ---- the elements of a table

module _ (d : ℕ) where
  pub numbers-append : (xs ys : List (R d).Carrier) → numbers d (xs ++ ys) ≡ numbers d xs ++ numbers d ys
  unfolding numbers
  numbers-append xs ys = flat_map_append (coeffs d) xs ys

  pub numbers-tab : (n : ℕ) (x : ℕ → (R d).Carrier) → numbers d (tab n x) ≡ elements d n x
  unfolding numbers elements
  numbers-tab n x = flat_map_tab (coeffs d) n x

  pub numbers-zeros : (n : ℕ) → numbers d (zeros d n) ≡ elements d n (λ _. (R d).zero)
  numbers-zeros n = ap (numbers d) (sym (tab_const n (R d).zero)) ∙ numbers-tab n (λ _. (R d).zero)

  pub numbers-flat : (n : ℕ) (F : ℕ → List (R d).Carrier) → numbers d (flat n F) ≡ flat n (λ i. numbers d (F i))
  unfolding numbers
  numbers-flat n F = flat_map_flat (coeffs d) n F

  entries : List (R d).Carrier → ℕ → (R d).Carrier
  entries xs i = get_or xs i (R d).zero

  numbers-list : (xs : List (R d).Carrier) → numbers d xs ≡ flat (length xs) (λ i. coeffs d (entries xs i))
  unfolding numbers entries
  numbers-list xs = flat_map_list (coeffs d) xs (R d).zero

  pub length-numbers : (xs : List (R d).Carrier) → length (numbers d xs) ≡ length xs * d
  length-numbers xs = ap length (numbers-list xs) ∙ length-flat (length xs) d (λ i. coeffs d (entries xs i)) (λ i _. length-coeffs d (entries xs i))

  pub el-numbers : (xs : List (R d).Carrier) (p : ℕ) → p < length xs → el d (numbers d xs) p ≡ get_or xs p (R d).zero
  unfolding entries
  el-numbers xs p h = ap (λ (ys : List ℤ). el d ys p) (numbers-list xs) ∙ el-flat-coeffs d (length xs) (entries xs) p h

-- ---- blocks of w elements each, at places that are counted in elements

-- k of n blocks are written from element a on, the next one stands at element `place`
pub record ElementBlocks (d a n w : ℕ) (F : ℕ → List ℤ) (old : List ℤ) (k place : ℕ) (new : List ℤ) : Type 0 where
  pub within : k ≤ n
  pub place_is : place ≡ a + k * w
  pub room : (a + n * w) * d ≤ length old
  pub is : new ≡ over old (a * d) (flat k F)
  pub same : length new ≡ length old

module _ {d a n w : ℕ} {F : ℕ → List ℤ} {old : List ℤ} where
  pub blocks_start : (a + n * w) * d ≤ length old → ElementBlocks d a n w F old 0 a old
  unfolding flat
  blocks_start e = record { within = omega arith; place_is = omega arith; room = e; is = sym (over-nil old (a * d)); same = refl }

  module _ {k place : ℕ} {new : List ℤ} (sofar : ElementBlocks d a n w F old k place new) where
    pub blocks_fit : k < n → (place + w) * d ≤ length new
    blocks_fit h =
        let inside : place + w ≤ a + n * w = omega (arith, mul-le-mul_right w h, sofar.place_is) in
        omega (arith, mul-le-mul_right d inside, sofar.room, sofar.same)

    -- the next place fits a machine word as the list's length does
    pub blocks_below : Degree d → k < n → place + w ≤ length old
    blocks_below degree h = rw (← sofar.same) (place-below d (place + w) degree.positive (blocks_fit h))

    pub blocks_turn : {next : List ℤ} → ((i : ℕ) → length (F i) ≡ w * d) → k < n → next ≡ over new (place * d) (F k)
        → ElementBlocks d a n w F old (k + 1) (place + w) next
    blocks_turn wide h written =
        let here : place * d ≡ a * d + k * (w * d) = rw sofar.place_is (omega arith) in
        record {
          within = omega arith;
          place_is = omega (arith, sofar.place_is);
          room = sofar.room;
          is = written ∙ rw (sofar.is, here) (over-flat old (a * d) k (w * d) F (λ i _. wide i) (omega (arith, sofar.room)));
          same = ap length written ∙ length_over new (place * d) (F k) (omega (arith, wide k, blocks_fit h)) ∙ sofar.same;
        }

    pub blocks_end : n ≤ k → new ≡ over old (a * d) (flat n F)
    blocks_end h = let all : k ≡ n = omega (arith, sofar.within) in rw all at sofar.is

-- ---- what is written

module _ (d : ℕ) where
  -- elements times 1
  pub row-once : (m : ℕ) (x : ℕ → (R d).Carrier) → elements d m (λ k. (R d).mul (number d (pos 1)) (x k)) ≡ numbers d (tab m x)
  unfolding elements
  row-once m x =
      flat_cong m _ _ (λ k _. ap (coeffs d) (ap (λ u. (R d).mul u (x k)) (number-one d) ∙ (R d).mul_comm (R d).one (x k) ∙ (R d).mul-one (x k))) ∙ sym (numbers-tab d m x)

  pub length-row : (m : ℕ) (x : ℕ → (R d).Carrier) → length (numbers d (tab m x)) ≡ m * d
  length-row m x = length-numbers d (tab m x) ∙ ap (λ (k : ℕ). k * d) (length-tab m x)

-- ---- how long the blocks are

module _ (d : ℕ) where
  pub length-z : (n tz b : ℕ) (f : ℕ → (R d).Carrier) → length (z_table d n tz b f) ≡ tz * n
  unfolding z_table
  length-z n tz b f = length_digits tz n (λ e k. (R d).mul (power d b e) (f k))

  pub length-t : (r κ t₁ : ℕ) (f : ℕ → ℕ → ℕ → (R d).Carrier) → length (t_table d r κ t₁ f) ≡ t_size r κ t₁
  unfolding t_table t_size
  length-t r κ t₁ f = length-parts r t₁ κ f

  pub length-garbage : (r b t : ℕ) (f : ℕ → ℕ → (R d).Carrier) → length (garbage_table d r b t f) ≡ garbage_size r t
  unfolding garbage_table garbage_size pairs
  length-garbage r b t f = length_triangle r t (λ i j e. (R d).mul (f i j) (power d b e))

-- ---- garbage elements are parts of one row

pair-at : (r i k : ℕ) → pair r i (i + k) ≡ start (λ k. r - k) i + k
unfolding pair
pair-at r i k = ap (λ x. start (λ k. r - k) i + x) (add-sub_cancel_left i k)

flat-ones {ℓ} : {A : Type ℓ} (t : ℕ) (x : ℕ → A) → flat t (λ e. x e ∷ []) ≡ tab t x
unfolding flat tab
flat-ones zero x = refl
flat-ones (suc t) x = ap (λ xs. xs ++ (x t ∷ [])) (flat-ones t x) ∙ sym (tab-suc t x)

module _ (d r base t : ℕ) (xs : List ℤ) where
  digits : Digits
  digits = record { base = base; count = t; rows = 1; row = 0 }

  garbage_row : ℕ → List (R d).Carrier
  garbage_row q = tab t (λ e. (R d).mul (el d xs q) (power d base e))

  one-row : (q e : ℕ) → tab 1 (digit_row d digits xs q e) ≡ (R d).mul (el d xs q) (power d base e) ∷ []
  unfolding tab digit_row digits
  one-row q e = refl

  pub garbage-parts : t_table d (pairs r) 1 t (digit_row d (record { base = base; count = t; rows = 1; row = 0 }) xs)
      ≡ garbage_table d r base t (λ i j. el d xs (pair r i j))
  unfolding t_table garbage_table pairs pairs-count digits garbage_row
  garbage-parts =
      flat_cong (start (λ k. r - k) r) _ garbage_row (λ q _.
      flat_cong t _ (λ e. (R d).mul (el d xs q) (power d base e) ∷ []) (λ e _. one-row q e)
      ∙ flat-ones t (λ e. (R d).mul (el d xs q) (power d base e)))
      ∙ flat_start (λ k. r - k) r garbage_row
      ∙ flat_cong r _ _ (λ i _. flat_cong (r - i) _ _ (λ k _. ap garbage_row (sym (pair-at r i k))))
