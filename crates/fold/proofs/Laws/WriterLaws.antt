-- Laws of the loops that write the messages' lists, besides those of ring's Writers.antt.
--     Rows          the invariant of a loop that writes the elements of the pairs i ≤ j, row by row, at the beginning of a list
--     drop-last     what stands in the last part of a block, where elements are written before they are split into digits
--     el-written    elements at the beginning of a list, read back
--     el-pairs, garbage_places, garbage-written     the elements of pairs read back, and their digits
use Rattle.std.specs.Prelude.{◌≡◌, take, drop, ℤ}
use Rattle.std.proofs.Math.Path.{refl, sym, ap}
use Rattle.std.proofs.Common.{◌∙◌, add-mul, mul_assoc, zero-mul, drop_of_length-le, length-take-le, take_at, drop_at}
use mathlib.Core.List.{List, ◌++◌, append-nil}
use Prim.Native.Nat.{ℕ, zero, suc, ◌+◌, ◌-◌, ◌*◌, ◌≤◌, ◌<◌}
use Rattle.std.proofs.Math.Nat.{mul-le-mul_right, zero-add, add-sub_cancel_left}
use Rattle.std.proofs.Math.Numerals.{add-one}
use native.Mathlib.Omega.{arith}
use Rattle.std.proofs.Math.ListN.{length}
use Rattle.integers.specs.Over.{over}
use Rattle.integers.specs.Laws.OverLaws.{over-nil, over-over, length_over}
use Rattle.integers.specs.Flat.{flat}
use Rattle.integers.specs.Laws.FlatLaws.{flat-at, flat-suc, flat_append, flat_cong, length-flat}
use Rattle.algebra.specs.Laws.Tables.{length-flat-start}
use Rattle.algebra.specs.Triangle.{start, pair, pairs-count}
use Rattle.algebra.specs.Laws.TriangleLaws.{start-suc, start_mono, pair-bound}
use Rattle.ring.specs.Element.{R, Degree, el, coeffs, array}
use Rattle.ring.specs.Laws.ElementLaws.{length-coeffs, take-array}
use Rattle.ring.specs.Laws.ElementPlaces.{el-take, el-drop, el_overs, el-flat-coeffs, block-before, place-below}
use Rattle.residues.specs.Digits.{split}
use Rattle.residues.proofs.Laws.DigitLaws.{length-split}
use Rattle.residues.proofs.Laws.DigitBlockLaws.{last_fits}
use Rattle.fold.specs.Sizes.{pairs}
use Rattle.fold.specs.Messages.{elements, garbage_digits}
use Rattle.fold.specs.PairElements.{pair_elements}

pub length-elements : (d n : ℕ) (x : ℕ → (R d).Carrier) → length (elements d n x) ≡ n * d
unfolding elements
length-elements d n x = length-flat n d (λ k. coeffs d (x k)) (λ k _. length-coeffs d (x k))

-- what is written up to the end of a list
pub drop-last {ℓ} : {A : Type ℓ} (old l : List A) (a : ℕ) → a + length l ≡ length old → drop a (over old a l) ≡ l
unfolding over
drop-last old l a e =
    let before : a ≤ length old = omega arith in
    let after : length old ≤ a + length l = omega arith in
    drop_at (take a old) (l ++ drop (a + length l) old) a (length-take-le a old before)
    ∙ rw (drop_of_length-le old after) (append-nil l)

-- elements at the beginning of a list, read back
pub el-written : (d n : ℕ) (x : ℕ → (R d).Carrier) (old : List ℤ) {new : List ℤ} → new ≡ over old 0 (elements d n x) → (k : ℕ) → k < n → el d new k ≡ x k
unfolding elements
el-written d n x old written k h =
    ap (λ (xs : List ℤ). el d xs k) written
    ∙ (rw (zero-mul d, zero-add k) at (el_overs d old (elements d n x) 0 n k (omega arith) (length-elements d n x) h))
    ∙ el-flat-coeffs d n x k h

-- ---- digits of elements that stand in the last part of a block

pub length_digits : (d b t : ℕ) (u : (R d).Carrier) → length (split b t (coeffs d u)) ≡ t * d
length_digits d b t u = length-split b t (coeffs d u) ∙ ap (λ (k : ℕ). t * k) (length-coeffs d u)

pub length-element-digits : (d b t n : ℕ) (x : ℕ → (R d).Carrier) → length (split b t (elements d n x)) ≡ t * (n * d)
length-element-digits d b t n x = length-split b t (elements d n x) ∙ ap (λ (k : ℕ). t * k) (length-elements d n x)

-- one element, stored as the sixty-four numbers u
pub split-element : (d b t : ℕ) (x : (R d).Carrier) (old : List ℤ) {new out u : List ℤ} → d ≤ 64 → 0 < t → length old ≡ t * d → u ≡ array d x
    → new ≡ over old ((t - 1) * d) (take d u) → out ≡ split b t (drop ((t - 1) * d) new) → out ≡ split b t (coeffs d x)
split-element d b t x old {u = u} small some size value stored digits =
    let numbers : take d u ≡ coeffs d x = rw value (take-array d x small) in
    let last = drop-last old (coeffs d x) ((t - 1) * d) (omega (arith, length-coeffs d x, last_fits t d some)) in
    digits ∙ ap (split b t) (ap (drop ((t - 1) * d)) (rw numbers at stored) ∙ last)

-- n elements
pub split-elements : (d b t n : ℕ) (x : ℕ → (R d).Carrier) (old : List ℤ) {new out : List ℤ} → 0 < t → length old ≡ t * (n * d)
    → new ≡ over old ((t - 1) * n * d) (elements d n x) → out ≡ split b t (drop ((t - 1) * (n * d)) new) → out ≡ split b t (elements d n x)
split-elements d b t n x old some size stored digits =
    let last = drop-last old (elements d n x) ((t - 1) * (n * d)) (omega (arith, length-elements d n x, last_fits t (n * d) some)) in
    digits ∙ ap (split b t) (ap (drop ((t - 1) * (n * d))) (rw (mul_assoc (t - 1) n d) at stored) ∙ last)

-- ---- the elements of pairs, row by row

-- i rows are written, the next one begins at element `at`
pub record Rows (d r : ℕ) (x : ℕ → ℕ → (R d).Carrier) (old : List ℤ) (i at : ℕ) (new : List ℤ) : Type 0 where
  pub within : i ≤ r
  pub room : pairs r * d ≤ length old
  pub place : at ≡ start (λ k. r - k) i
  pub is : new ≡ over old 0 (flat i (λ i. elements d (r - i) (λ k. x i (i + k))))
  pub same : length new ≡ length old

start-scale : (w : ℕ → ℕ) (m n : ℕ) → start (λ i. w i * m) n ≡ start w n * m
unfolding start
start-scale w m zero = sym (zero-mul m)
start-scale w m (suc n) = ap (λ x. x + w n * m) (start-scale w m n) ∙ sym (add-mul (start w n) (w n) m)

module _ (d r : ℕ) (x : ℕ → ℕ → (R d).Carrier) where
  row : ℕ → List ℤ
  row i = elements d (r - i) (λ k. x i (i + k))

  length-rows : (i : ℕ) → length (flat i row) ≡ start (λ k. r - k) i * d
  unfolding row
  length-rows i =
      length-flat-start i (λ k. (r - k) * d) row (λ k _. length-elements d (r - k) (λ j. x k (k + j))) ∙ start-scale (λ k. r - k) d i

  length-all : length (flat r row) ≡ pairs-count r * d
  unfolding pairs-count
  length-all = length-rows r

  el-row : (i k : ℕ) → i < r → k < r - i → el d (flat r row) (start (λ k. r - k) i + k) ≡ x i (i + k)
  unfolding row elements
  el-row i k h l =
      let rest = flat (r - suc i) (λ j. row (suc i + j)) in
      let first = start (λ k. r - k) i in
      ap (λ (xs : List ℤ). el d xs (first + k)) (flat-at r i row h)
      ∙ sym (el-drop d (flat i row ++ (row i ++ rest)) first k)
      ∙ ap (λ (xs : List ℤ). el d xs k) (drop_at (flat i row) (row i ++ rest) (first * d) (length-rows i))
      ∙ sym (el-take d (row i ++ rest) ((r - i) * d) k (block-before d k (r - i) l))
      ∙ ap (λ (xs : List ℤ). el d xs k) (take_at (row i) rest ((r - i) * d) (length-elements d (r - i) (λ j. x i (i + j))))
      ∙ el-flat-coeffs d (r - i) (λ j. x i (i + j)) k l

  -- element (i, j) read back
  pub el-pairs : (old : List ℤ) → pairs r * d ≤ length old → (i j : ℕ) → i ≤ j → j < r → el d (over old 0 (pair_elements d r x)) (pair r i j) ≡ x i j
  unfolding pair_elements pair row pairs
  el-pairs old size i j h l =
      let inside : start (λ k. r - k) i + (j - i) < pairs-count r = pair-bound r i j h l in
      let within : 0 * d ≤ length old = omega arith in
      let column : i + (j - i) ≡ j = omega arith in
      (rw (zero-mul d, zero-add (start (λ k. r - k) i + (j - i))) at
      (el_overs d old (flat r row) 0 (pairs-count r) (start (λ k. r - k) i + (j - i)) within length-all inside))
      ∙ el-row i (j - i) (omega arith) (omega arith)
      ∙ ap (x i) column

module _ {d r : ℕ} {x : ℕ → ℕ → (R d).Carrier} {old : List ℤ} where
  pub rows_start : pairs r * d ≤ length old → Rows d r x old 0 0 old
  unfolding flat start
  rows_start size = record { within = omega arith; room = size; place = refl; is = sym (over-nil old 0); same = refl }

  module _ {i at : ℕ} {new : List ℤ} (sofar : Rows d r x old i at new) where
    pub rows_fit : i < r → (at + (r - i)) * d ≤ length new
    unfolding pairs pairs-count
    rows_fit h =
        let inside : at + (r - i) ≤ start (λ k. r - k) r = omega (arith, start_mono (λ k. r - k) i r h, sofar.place) in
        omega (arith, mul-le-mul_right d inside, sofar.room, sofar.same)

    -- the place after the next row fits a machine word as the list's length does
    pub rows-below : Degree d → i < r → at + (r - i) ≤ length old
    rows-below degree h = rw (← sofar.same) (place-below d (at + (r - i)) degree.positive (rows_fit h))

    pub rows-turn : {next : List ℤ} → i < r → next ≡ over new (at * d) (elements d (r - i) (λ k. x i (i + k)))
        → Rows d r x old (i + 1) (at + (r - i)) next
    unfolding row
    rows-turn h written =
        let place : at * d ≡ 0 + length (flat i (row d r x)) = omega (arith, length-rows d r x i, ap (λ (p : ℕ). p * d) sofar.place) in
        let wide = length-elements d (r - i) (λ k. x i (i + k)) in
        record {
          within = omega arith;
          room = sofar.room;
          place = rw add-one (ap (λ (p : ℕ). p + (r - i)) sofar.place ∙ sym (start-suc (λ k. r - k) i));
          is = written ∙ rw (sofar.is, place, add-one, flat-suc i (row d r x)) (over-over old 0 (flat i (row d r x)) (row d r x i) (omega arith));
          same = ap length written ∙ length_over new (at * d) (row d r x i) (omega (arith, wide, rows_fit h)) ∙ sofar.same;
        }

    pub rows_end : r ≤ i → new ≡ over old 0 (pair_elements d r x)
    unfolding pair_elements
    rows_end h = let all : i ≡ r = omega (arith, sofar.within) in rw all at sofar.is

-- ---- the digits of pairs, by place

-- blocks of widths w 0, w 1, .. of lists
pub flat_start {ℓ} : {A : Type ℓ} (w : ℕ → ℕ) (n : ℕ) (F : ℕ → List A) → flat (start w n) F ≡ flat n (λ i. flat (w i) (λ k. F (start w i + k)))
unfolding flat start
flat_start w zero F = refl
flat_start w (suc n) F = cc (flat_append (start w n) (w n) F, flat_start w n F)

pub garbage_places : (d r b t : ℕ) (y : ℕ → (R d).Carrier)
    → flat (pairs r) (λ e. split b t (coeffs d (y e))) ≡ garbage_digits d r b t (λ i j. y (pair r i j))
unfolding pair pairs pairs-count garbage_digits
garbage_places d r b t y =
    flat_start (λ k. r - k) r (λ e. split b t (coeffs d (y e)))
    ∙ flat_cong r _ _ (λ i h. flat_cong (r - i) _ _ (λ k l.
    ap (λ (p : ℕ). split b t (coeffs d (y (start (λ k. r - k) i + p)))) (sym (add-sub_cancel_left i k))))

pub garbage_cong : (d r b t : ℕ) (x y : ℕ → ℕ → (R d).Carrier) → ((i j : ℕ) → i ≤ j → j < r → x i j ≡ y i j)
    → garbage_digits d r b t x ≡ garbage_digits d r b t y
unfolding garbage_digits
garbage_cong d r b t x y e =
    flat_cong r _ _ (λ i h. flat_cong (r - i) _ _ (λ k l.
    ap (λ u. split b t (coeffs d u)) (e i (i + k) (omega arith) (omega arith))))

-- the digits of elements that `values` holds, written there row by row
pub garbage-written : (d r b t : ℕ) (x : ℕ → ℕ → (R d).Carrier) (old : List ℤ) {values out : List ℤ} → pairs r * d ≤ length old
    → values ≡ over old 0 (pair_elements d r x) → out ≡ garbage_digits d r b t (λ i j. el d values (pair r i j))
    → out ≡ garbage_digits d r b t x
garbage-written d r b t x old fits values out =
    out ∙ garbage_cong d r b t _ x (λ i j h l. ap (λ (v : List ℤ). el d v (pair r i j)) values ∙ el-pairs d r x old fits i j h l)
