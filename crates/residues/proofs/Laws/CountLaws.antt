-- Laws of counts by absolute value.
--     count-is                    a count is the sum over all indices of 1 where the number has this absolute value, else 0
--     counts-most                 zeros, ones and twos are no more than all numbers
--     all_small, norm_sq-counts    where they are all: no absolute value is above 2, and their counts give the squared length
--     total-short                 the absolute values sum to at most the squared length
use Rattle.std.specs.Prelude.{◌≡◌, refl, Bool, true, false, cond, List, [], ◌∷◌, ℕ, zero, suc, ◌+◌, ◌*◌, ◌≤◌, leb, eqb, length, get_or, ℤ, pos, nat_abs}
use Rattle.std.proofs.Common.{ap, arith, le-leb, ne_eqb}
use Rattle.integers.specs.Sums.{total, sq, norm_sq}
use Rattle.integers.specs.Laws.SumLaws.{total_first, total_mono, norm_sq-total}
use Rattle.integers.specs.Laws.AllLaws.{both_true}
use Rattle.integers.specs.Lists.{all}
use Rattle.residues.specs.Range.{all_within, count_of}

-- ---- one number

abbrev pub one_if : Bool → ℕ
one_if t = cond t 1 0

one_if_most : (t : Bool) → one_if t ≤ 1
one_if_most true = omega arith
one_if_most false = omega arith

none_of : (n a : ℕ) → (n ≡ a → ⊥) → one_if (eqb n a) ≡ 0
none_of n a h = ap one_if (ne_eqb n a h)

-- ---- a count by index

pub count-is : (a : ℕ) (xs : List ℤ) → count_of a xs ≡ total (length xs) (λ k. one_if (eqb (nat_abs (get_or xs k (pos 0))) a))
unfolding count_of total
count-is a [] = refl
count-is a (x ∷ xs) = omega (arith, count-is a xs, total_first (length xs) (λ k. one_if (eqb (nat_abs (get_or (x ∷ xs) k (pos 0))) a)))

-- ---- zeros, ones and twos

-- what a number of absolute value n adds to the three counts: 1 at most, and where it is counted, n is at most 2 and its square is ones + 4·twos
record Shares (n zeros ones twos : ℕ) : Type 0 where
  once : zeros + ones + twos ≤ 1
  small : zeros + ones + twos ≡ 1 → n ≤ 2
  square : zeros + ones + twos ≡ 1 → n * n ≡ ones + 4 * twos

shares : (n : ℕ) → Shares n (one_if (eqb n 0)) (one_if (eqb n 1)) (one_if (eqb n 2))
shares zero = record { once = omega arith; small = λ h. omega arith; square = λ h. refl }
shares (suc zero) = record { once = omega arith; small = λ h. omega arith; square = λ h. refl }
shares (suc (suc zero)) = record { once = omega arith; small = λ h. omega arith; square = λ h. refl }
shares (suc (suc (suc n))) =
    let no_zero = none_of (suc (suc (suc n))) 0 (λ e. omega arith) in
    let no_one = none_of (suc (suc (suc n))) 1 (λ e. omega arith) in
    let no-two = none_of (suc (suc (suc n))) 2 (λ e. omega arith) in
    record { once = omega arith; small = λ h. omega arith; square = λ h. let no : ⊥ = omega arith in absurd no }

pub counts-most : (xs : List ℤ) → count_of 0 xs + count_of 1 xs + count_of 2 xs ≤ length xs
unfolding count_of
counts-most [] = omega arith
counts-most (x ∷ xs) = omega (arith, (shares (nat_abs x)).once, counts-most xs)

pub all_small : (xs : List ℤ) → length xs ≤ count_of 0 xs + count_of 1 xs + count_of 2 xs → all_within 2 xs ≡ true
unfolding count_of all_within all
all_small [] h = refl
all_small (x ∷ xs) h =
    both_true (leb (nat_abs x) 2) (all_within 2 xs)
    (le-leb (nat_abs x) 2 ((shares (nat_abs x)).small (omega (arith, (shares (nat_abs x)).once, counts-most xs))))
    (all_small xs (omega (arith, (shares (nat_abs x)).once)))

pub norm_sq-counts : (xs : List ℤ) → length xs ≤ count_of 0 xs + count_of 1 xs + count_of 2 xs → norm_sq xs ≡ count_of 1 xs + 4 * count_of 2 xs
unfolding count_of norm_sq sq
norm_sq-counts [] h = refl
norm_sq-counts (x ∷ xs) h =
    omega (
      arith,
      (shares (nat_abs x)).square (omega (arith, (shares (nat_abs x)).once, counts-most xs)),
      norm_sq-counts xs (omega (arith, (shares (nat_abs x)).once)),
    )

-- ---- sums of absolute values

square-most : (n : ℕ) → n ≤ n * n
square-most zero = omega arith
square-most (suc n) = omega arith

pub total-short : (xs : List ℤ) → total (length xs) (λ k. nat_abs (get_or xs k (pos 0))) ≤ norm_sq xs
unfolding sq
total-short xs =
    omega (
      arith,
      total_mono (length xs) (λ k. nat_abs (get_or xs k (pos 0))) (λ k. sq (get_or xs k (pos 0))) (λ k h. square-most (nat_abs (get_or xs k (pos 0)))),
      norm_sq-total xs,
    )
