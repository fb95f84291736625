-- Row 15 by index: `low_narrow` says that each digit below the top one of each group is at most half its base in absolute value. That a list of
-- narrow digits passes, and that the honest digits do: NarrowTests.
--     LowNarrow, low_narrow-at     the groups of one list
--     LowDigitAt, low_digit        a number of a group's low digits, by its digit, row and place
use Rattle.std.specs.Prelude.{◌≡◌, true, List, ℕ, ◌+◌, ◌-◌, ◌*◌, ◌≤◌, ◌<◌, get_or, take, drop, ℤ, pos, nat_abs}
use Rattle.std.proofs.Common.{◌∙◌, arith, get_or-take, get_or-drop}
use Rattle.std.proofs.Math.Nat.{mul_assoc}
use Rattle.integers.specs.Laws.FlatLaws.{block-fits}
use Rattle.algebra.specs.Laws.TriangleLaws.{BlockOf, block_of, start-same}
use Rattle.residues.proofs.Laws.RangeLaws.{all_narrow-at}
use Rattle.ring.specs.Laws.ElementEquality.{every_true}
use Rattle.fold.specs.Refusals.{low_narrow}

-- place i of n blocks of width m
block_at : (n m place : ℕ) → place < n * m → BlockOf (λ _. m) n place
block_at n m place h = block_of (λ _. m) n place (omega (arith, start-same m n))

module _ (d count t rows base : ℕ) (xs : List ℤ) where
  -- digit e of row k of group i, number x of its element
  abbrev pub LowNarrow : Type 0
  LowNarrow =
      (i e k x : ℕ) → i < count → e + 1 < t → k < rows → x < d → nat_abs (get_or xs (((i * t + e) * rows + k) * d + x) (pos 0)) * 2 ≤ base

  -- number y of the low digits of group i
  pub low_at : (i y : ℕ) → y < (t - 1) * (rows * d)
      → get_or (take ((t - 1) * (rows * d)) (drop (i * (t * (rows * d))) xs)) y (pos 0) ≡ get_or xs (i * (t * (rows * d)) + y) (pos 0)
  low_at i y h = get_or-take ((t - 1) * (rows * d)) _ y (pos 0) h ∙ get_or-drop (i * (t * (rows * d))) xs y (pos 0)

  pub digit-place : (i e k x : ℕ) → i * (t * (rows * d)) + ((e * rows + k) * d + x) ≡ ((i * t + e) * rows + k) * d + x
  digit-place i e k x = omega arith

  pub low_narrow-at : low_narrow d count t rows base xs ≡ true → LowNarrow
  unfolding low_narrow
  low_narrow-at all i e k x h l m g =
      let inside : (e * rows + k) * d + x < (t - 1) * (rows * d) =
      omega (arith, block-fits ((t - 1) * rows) d (e * rows + k) x (block-fits (t - 1) rows e k (omega arith) m) g, mul_assoc (t - 1) rows d) in
      let one = all_narrow-at base _ (every_true count _ all i h) ((e * rows + k) * d + x) in
      rw (low_at i ((e * rows + k) * d + x) inside, digit-place i e k x) at one

  -- number y of a group's low digits is number x of row k of digit e
  pub record LowDigitAt (y : ℕ) : Type 0 where
    pub e : ℕ
    pub k : ℕ
    pub x : ℕ
    pub low : e + 1 < t
    pub row : k < rows
    pub number : x < d
    pub is : (e * rows + k) * d + x ≡ y

  pub low_digit : (y : ℕ) → y < (t - 1) * (rows * d) → LowDigitAt y
  low_digit y l =
      let digit = block_at (t - 1) (rows * d) y l in
      let row = block_at rows d digit.offset digit.inside in
      record {
        e = digit.block;
        k = row.block;
        x = row.offset;
        low = omega (arith, digit.below);
        row = row.below;
        number = row.inside;
        is = omega (arith, digit.is, row.is, start-same (rows * d) digit.block, start-same d row.block);
      }
