-- Laws of sums over the pairs i ≤ j below r, and of the place of such a pair.
use Prim.Native.Nat.{ℕ, zero, suc, ◌+◌, ◌-◌, ◌*◌, ◌≤◌, ◌<◌}
use Rattle.std.specs.Prelude.{◌≡◌, ◌⊎◌}
use Rattle.std.proofs.Math.Path.{refl, sym, ap}
use Rattle.std.proofs.Common.{◌∙◌, inl, inr, le_refl, eq-or-lt_of_le, arith}
use Rattle.std.proofs.Math.Nat.{sub_self, add-sub_cancel_left}
use Rattle.std.proofs.Math.Decide.{dec_le}
use Rattle.algebra.specs.CommRing.{CommRing}
use Rattle.algebra.specs.Laws.RingLaws.{add_left_comm}
use Rattle.algebra.specs.Sum.{sum}
use Rattle.algebra.specs.Laws.SumLaws.{sum_cong, sum-add, sum-mul, sum_swap, sum-split}
use Rattle.algebra.specs.Triangle.{start, pair, pairs-count, below, rows}

-- a block ends where the next one begins
pub start-suc : (w : ℕ → ℕ) (i : ℕ) → start w (suc i) ≡ start w i + w i
unfolding start
start-suc w i = refl

-- a later block begins no earlier than the end of this one
pub start_mono : (w : ℕ → ℕ) (i n : ℕ) → i < n → start w i + w i ≤ start w n
unfolding start
start_mono w i zero l = absurd (omega arith)
start_mono w i (suc n) l = pick (start_mono w i n) (eq-or-lt_of_le l)
  where
    pick : (i < n → start w i + w i ≤ start w n) → (suc i ≡ suc n) ⊎ (suc i < suc n) → start w i + w i ≤ start w n + w n
    pick before (inl e) =
        let same : i ≡ n = omega arith in
        rw same (le_refl (start w n + w n))
    pick before (inr h) = omega (arith, before (omega arith))

-- every place before the end of n blocks lies in one of them
pub record BlockOf (w : ℕ → ℕ) (n place : ℕ) : Type 0 where
  pub block : ℕ
  pub offset : ℕ
  pub below : block < n
  pub inside : offset < w block
  pub is : start w block + offset ≡ place

pub block_of : (w : ℕ → ℕ) (n place : ℕ) → place < start w n → BlockOf w n place
unfolding start
block_of w zero place h = absurd (omega arith)
block_of w (suc n) place h = pick (block_of w n place) (dec_le (start w n) place)
  where
    pick : (place < start w n → BlockOf w n place) → Dec (start w n ≤ place) → BlockOf w (suc n) place
    pick earlier (yes l) = record { block = n; offset = place - start w n; below = omega arith; inside = omega arith; is = omega arith }
    pick earlier (no l) =
        let before = earlier (omega arith) in
        record {
          block = before.block;
          offset = before.offset;
          below = omega (arith, before.below);
          inside = before.inside;
          is = before.is;
        }

-- blocks of one width
pub start-same : (m n : ℕ) → start (λ _. m) n ≡ n * m
unfolding start
start-same m zero = omega arith
start-same m (suc n) = omega (arith, start-same m n)

-- the first pair, one step along a row, and from the end of a row to the next one
pub pair-zero : (r : ℕ) → pair r 0 0 ≡ 0
unfolding pair start
pair-zero r = refl

pub pair_row : (r i : ℕ) → pair r i r ≡ pair r (suc i) (suc i)
unfolding pair start
pair_row r i = omega arith

pub pair_end : (r : ℕ) → pair r r r ≡ pairs-count r
unfolding pair pairs-count
pair_end r = omega arith

pub pair-bound : (r i j : ℕ) → i ≤ j → j < r → pair r i j < pairs-count r
unfolding pair pairs-count
pair-bound r i j h l = omega (arith, start_mono (λ k. r - k) i r (omega arith))

-- every place is that of a pair
pub record PairOf (r place : ℕ) : Type 0 where
  pub i : ℕ
  pub j : ℕ
  pub ordered : i ≤ j
  pub below : j < r
  pub is : pair r i j ≡ place

pub pair_of : (r place : ℕ) → place < pairs-count r → PairOf r place
unfolding pair pairs-count
pair_of r place h =
    let at = block_of (λ k. r - k) r place h in
    record {
      i = at.block;
      j = at.block + at.offset;
      ordered = omega arith;
      below = omega (arith, at.below, at.inside);
      is = omega (arith, at.is);
    }

-- twice the rows up to i, as a polynomial in i
rows-twice : (r i : ℕ) → i ≤ r → start (λ k. r - k) i * 2 + i * i ≡ i * (r * 2 + 1)
unfolding start
rows-twice r zero l = omega arith
rows-twice r (suc i) l =
    let before : start (λ k. r - k) i * 2 + i * i ≡ i * (r * 2 + 1) = rows-twice r i (omega arith) in
    omega arith

pub pairs-count-twice : (r : ℕ) → pairs-count r * 2 ≡ r * (r + 1)
unfolding pairs-count
pairs-count-twice r = omega (arith, rows-twice r r (omega arith))

module _ (𝓡 : CommRing) where
  infixl 65 ◌⊕◌
  infixl 70 ◌⊗◌
  open 𝓡 use {Carrier, zero as 𝟘, add as ◌⊕◌, mul as ◌⊗◌}
  open 𝓡 use {add_assoc, add_comm, add-zero}

  -- a sum over consecutive blocks of widths w 0, w 1, ..
  pub sum-start : (w : ℕ → ℕ) (r : ℕ) (f : ℕ → Carrier)
      → sum 𝓡 (start w r) f ≡ sum 𝓡 r (λ i. sum 𝓡 (w i) (λ k. f (start w i + k)))
  unfolding sum start
  sum-start w zero f = refl
  sum-start w (suc r) f =
      sum-split 𝓡 (start w r) (w r) f ∙ ap (λ x. x ⊕ sum 𝓡 (w r) (λ k. f (start w r + k))) (sum-start w r f)

  -- the entries of a list in the order of rows
  pub sum-pairs : (r : ℕ) (f : ℕ → Carrier) → sum 𝓡 (pairs-count r) f ≡ rows 𝓡 r (λ i j. f (pair r i j))
  unfolding pairs-count rows pair
  sum-pairs r f =
      sum-start (λ k. r - k) r f
      ∙ sum_cong 𝓡 r _ _ (λ i l. sum_cong 𝓡 (r - i) _ _ (λ k d. ap (λ x. f (start (λ k. r - k) i + x)) (sym (add-sub_cancel_left i k))))

  pub rows_cong : (r : ℕ) (f g : ℕ → ℕ → Carrier) → ((i j : ℕ) → i ≤ j → j < r → f i j ≡ g i j) → rows 𝓡 r f ≡ rows 𝓡 r g
  unfolding rows
  rows_cong r f g h = sum_cong 𝓡 r _ _ (λ i l. sum_cong 𝓡 (r - i) _ _ (λ k d. h i (i + k) (omega arith) (omega arith)))

  pub rows-add : (r : ℕ) (f g : ℕ → ℕ → Carrier) → rows 𝓡 r (λ i j. f i j ⊕ g i j) ≡ rows 𝓡 r f ⊕ rows 𝓡 r g
  unfolding rows
  rows-add r f g =
      sum_cong 𝓡 r _ _ (λ i _. sum-add 𝓡 (r - i) (λ k. f i (i + k)) (λ k. g i (i + k)))
      ∙ sum-add 𝓡 r (λ i. sum 𝓡 (r - i) (λ k. f i (i + k))) (λ i. sum 𝓡 (r - i) (λ k. g i (i + k)))

  pub rows-mul : (r : ℕ) (c : Carrier) (f : ℕ → ℕ → Carrier) → c ⊗ rows 𝓡 r f ≡ rows 𝓡 r (λ i j. c ⊗ f i j)
  unfolding rows
  rows-mul r c f =
      sum-mul 𝓡 r c (λ i. sum 𝓡 (r - i) (λ k. f i (i + k)))
      ∙ sum_cong 𝓡 r _ _ (λ i _. sum-mul 𝓡 (r - i) c (λ k. f i (i + k)))

  -- a sum of triangular sums
  pub rows-sum : (r m : ℕ) (f : ℕ → ℕ → ℕ → Carrier) → rows 𝓡 r (λ i j. sum 𝓡 m (λ l. f l i j)) ≡ sum 𝓡 m (λ l. rows 𝓡 r (f l))
  unfolding rows
  rows-sum r m f =
      sum_cong 𝓡 r _ _ (λ i _. sum_swap 𝓡 (r - i) m (λ k l. f l i (i + k)))
      ∙ sum_swap 𝓡 r m (λ i l. sum 𝓡 (r - i) (λ k. f l i (i + k)))

  pub below_cong : (r : ℕ) (f g : ℕ → ℕ → Carrier) → ((i j : ℕ) → i < j → j < r → f i j ≡ g i j) → below 𝓡 r f ≡ below 𝓡 r g
  unfolding below
  below_cong r f g h = sum_cong 𝓡 r _ _ (λ j l. sum_cong 𝓡 j _ _ (λ i d. h i j d l))

  pub below-mul : (r : ℕ) (c : Carrier) (f : ℕ → ℕ → Carrier) → c ⊗ below 𝓡 r f ≡ below 𝓡 r (λ i j. c ⊗ f i j)
  unfolding below
  below-mul r c f =
      sum-mul 𝓡 r c (λ j. sum 𝓡 j (λ i. f i j)) ∙ sum_cong 𝓡 r _ _ (λ j _. sum-mul 𝓡 j c (λ i. f i j))

  -- one column more
  pub rows-suc : (r : ℕ) (f : ℕ → ℕ → Carrier) → rows 𝓡 (suc r) f ≡ rows 𝓡 r f ⊕ sum 𝓡 (suc r) (λ i. f i r)
  unfolding rows sum
  rows-suc r f =
      sum_cong 𝓡 (suc r) _ (λ i. row i ⊕ f i r) longer
      ∙ sum-add 𝓡 (suc r) row (λ i. f i r)
      ∙ ap (λ x. x ⊕ sum 𝓡 (suc r) (λ i. f i r)) (ap (λ n. rows 𝓡 r f ⊕ sum 𝓡 n (λ k. f r (r + k))) (sub_self r) ∙ add-zero (rows 𝓡 r f))
    where
      row : ℕ → Carrier
      row i = sum 𝓡 (r - i) (λ k. f i (i + k))

      longer : (i : ℕ) → i < suc r → sum 𝓡 (suc r - i) (λ k. f i (i + k)) ≡ row i ⊕ f i r
      longer i l =
          let width : suc r - i ≡ suc (r - i) = omega arith in
          let last : i + (r - i) ≡ r = omega arith in
          ap (λ n. sum 𝓡 n (λ k. f i (i + k))) width ∙ ap (λ j. row i ⊕ f i j) last

  -- the loops' order against the diagonal and the strict part
  pub rows-below : (r : ℕ) (f : ℕ → ℕ → Carrier) → rows 𝓡 r f ≡ sum 𝓡 r (λ i. f i i) ⊕ below 𝓡 r f
  unfolding rows below sum
  rows-below zero f = sym (add-zero 𝟘)
  rows-below (suc r) f =
      rows-suc r f
      ∙ ap (λ x. x ⊕ sum 𝓡 (suc r) (λ i. f i r)) (rows-below r f)
      ∙ regroup (sum 𝓡 r (λ i. f i i)) (below 𝓡 r f) (sum 𝓡 r (λ i. f i r)) (f r r)
    where
      regroup : (d b c e : Carrier) → d ⊕ b ⊕ (c ⊕ e) ≡ d ⊕ e ⊕ (b ⊕ c)
      regroup d b c e = simp (add_assoc, add_comm, add_left_comm 𝓡)

  -- a full square, folded along its diagonal
  pub rows-square : (r : ℕ) (f : ℕ → ℕ → Carrier)
      → sum 𝓡 r (λ i. sum 𝓡 r (λ j. f i j)) ≡ sum 𝓡 r (λ i. f i i) ⊕ below 𝓡 r (λ i j. f i j ⊕ f j i)
  unfolding below sum
  rows-square zero f = sym (add-zero 𝟘)
  rows-square (suc r) f =
      ap (λ x. x ⊕ (row ⊕ f r r)) (sum-add 𝓡 r (λ i. sum 𝓡 r (λ j. f i j)) (λ i. f i r) ∙ ap (λ x. x ⊕ column) (rows-square r f))
      ∙ regroup (sum 𝓡 r (λ i. f i i)) (below 𝓡 r (λ i j. f i j ⊕ f j i)) column row (f r r)
      ∙ ap (λ x. sum 𝓡 (suc r) (λ i. f i i) ⊕ (below 𝓡 r (λ i j. f i j ⊕ f j i) ⊕ x)) (sym (sum-add 𝓡 r (λ i. f i r) (λ i. f r i)))
    where
      row : Carrier
      row = sum 𝓡 r (λ j. f r j)

      column : Carrier
      column = sum 𝓡 r (λ i. f i r)

      regroup : (d b c e g : Carrier) → d ⊕ b ⊕ c ⊕ (e ⊕ g) ≡ d ⊕ g ⊕ (b ⊕ (c ⊕ e))
      regroup d b c e g = simp (add_assoc, add_comm, add_left_comm 𝓡)
