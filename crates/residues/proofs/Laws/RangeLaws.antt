-- Laws of the range tests on slices.
--     all_within-at, all_within_of        the test by index: true is a bound for each number
--     all_within_false                   one number above the bound
--     all_within_mono                    a larger bound
--     all_within-join, -part             joined slices, a part of a slice
--     Tested                            the invariant of the loop of `all_between`, with its start and its step
--     coefficients-.., projections-..   the same at the bounds of rows 8 and 9
--     counted-tests, short-tests        row 10: the two rules as tests
--     challenge_64, -other              which of them is asked
--     all_narrow-at, -of, -false         row 15: the test by index
--     narrow-between                    and as code asks it
use Rattle.std.specs.Prelude.{◌≡◌, refl, Bool, true, false, cond, not, ◌&&◌, List, [], ◌∷◌, ◌++◌, ℕ, zero, suc, ◌+◌, ◌*◌, ◌/◌, ◌≤◌, ◌<◌, leb, ltb, eqb, length, get_or, take, drop, ℤ, pos, negsuc, neg_ℤ, nat_abs, Option}
use Rattle.std.proofs.Common.{sym, ap, ap₂, ◌∙◌, le_trans, add-one, arith, take-suc, le-leb, leb-true, leb-false, ltb-true, ltb-false, le-ltb, eq-eqb, ne_eqb}
use Rattle.std.proofs.lemmas.Bool.{lt-leb}
use Rattle.integers.specs.Lists.{all}
use Rattle.integers.specs.Sums.{norm_sq}
use Rattle.integers.specs.Laws.AllLaws.{both_and, all-at, all_of, all_false, all_join, all-part, all-last}
use Rattle.residues.specs.Length.{remaining, holds}
use Rattle.residues.proofs.Laws.LengthLaws.{holds-remaining}
use Rattle.residues.specs.Range.{between, all_between, all_within, coefficients, projection_entries, count_of, counted_challenge, short_challenge, challenge, all_narrow}

-- ---- the test by index

-- the default, 0, is within every bound, so the index need not be below the length
pub all_within-at : (b : ℕ) (xs : List ℤ) → all_within b xs ≡ true → (i : ℕ) → nat_abs (get_or xs i (pos 0)) ≤ b
unfolding all_within
all_within-at b xs e i = leb-true _ b (all-at (λ x. leb (nat_abs x) b) xs (pos 0) (le-leb 0 b (omega arith)) e i)

pub all_within_of : (b : ℕ) (xs : List ℤ) → ((i : ℕ) → i < length xs → nat_abs (get_or xs i (pos 0)) ≤ b) → all_within b xs ≡ true
unfolding all_within
all_within_of b xs h = all_of (λ x. leb (nat_abs x) b) xs (pos 0) (λ i l. le-leb _ b (h i l))

pub all_within_false : (b : ℕ) (xs : List ℤ) (i : ℕ) → b < nat_abs (get_or xs i (pos 0)) → all_within b xs ≡ false
all_within_false b xs i h = pick (all_within b xs) refl
  where
    pick : (t : Bool) → all_within b xs ≡ t → t ≡ false
    pick true e = let f : ⊥ = omega (arith, all_within-at b xs e i) in absurd f
    pick false e = refl

pub all_within_mono : (b c : ℕ) (xs : List ℤ) → b ≤ c → all_within b xs ≡ true → all_within c xs ≡ true
all_within_mono b c xs h e = all_within_of c xs (λ i k. le_trans (all_within-at b xs e i) h)

-- ---- joined slices, and a part of one

pub all_within-join : (b : ℕ) (xs ys : List ℤ) → all_within b xs ≡ true → all_within b ys ≡ true → all_within b (xs ++ ys) ≡ true
unfolding all_within
all_within-join b xs ys e f = all_join (λ x. leb (nat_abs x) b) xs ys e f

-- a part `&xs[m..m + n]`
pub all_within-part : (b m n : ℕ) (xs : List ℤ) → all_within b xs ≡ true → all_within b (take n (drop m xs)) ≡ true
unfolding all_within
all_within-part b m n xs e = all-part (λ x. leb (nat_abs x) b) m n xs e

-- ---- the loop of `all_between`: `all` says whether the first i numbers lie from low to high

not_ltb : (m n : ℕ) → not (ltb m n) ≡ leb n m
not_ltb m n = pick (ltb m n) refl
  where
    pick : (t : Bool) → ltb m n ≡ t → not t ≡ leb n m
    pick true e = sym (lt-leb n m (ltb-true m n e))
    pick false e = sym (le-leb n m (ltb-false m n e))

between-within : (b : ℕ) (x : ℤ) → between (negsuc b) (pos (suc b)) x ≡ leb (nat_abs x) (suc b)
unfolding between
between-within b (pos n) = not_ltb (suc b) n
between-within b (negsuc n) = and-true (not (ltb b n)) ∙ not_ltb b n ∙ leb-suc
  where
    and-true : (t : Bool) → t && true ≡ t
    and-true true = refl
    and-true false = refl

    leb-suc : leb n b ≡ leb (suc n) (suc b)
    leb-suc = pick (ltb b n) refl
      where
        pick : (t : Bool) → ltb b n ≡ t → leb n b ≡ leb (suc n) (suc b)
        pick true e = lt-leb n b (ltb-true b n e) ∙ sym (lt-leb (suc n) (suc b) (omega (arith, ltb-true b n e)))
        pick false e = le-leb n b (ltb-false b n e) ∙ sym (le-leb (suc n) (suc b) (omega (arith, ltb-false b n e)))

-- from -b to b is within b
pub between-bound : (b : ℕ) (xs : List ℤ) → all_between (negsuc b) (pos (suc b)) xs ≡ all_within (suc b) xs
unfolding all_between all_within all
between-bound b [] = refl
between-bound b (x ∷ xs) = rw (between-within b x, between-bound b xs) refl

-- from 0 to 0 is zero
pub between-zero : (xs : List ℤ) → all_between (pos 0) (pos 0) xs ≡ all_within 0 xs
unfolding all_between all_within all between
between-zero [] = refl
between-zero (x ∷ xs) = rw (zero-only x, between-zero xs) refl
  where
    zero-only : (x : ℤ) → between (pos 0) (pos 0) x ≡ leb (nat_abs x) 0
    zero-only (pos n) = ap (λ t. not t && not (ltb 0 n)) (le-ltb n 0 (omega arith)) ∙ not_ltb 0 n
    zero-only (negsuc n) = sym (lt-leb (suc n) 0 (omega arith))

pub record Tested (low high : ℤ) (xs : List ℤ) (i : ℕ) (all : Bool) : Type 0 where
  pub below : i ≤ length xs
  pub is : all ≡ all_between low high (take i xs)

pub tested-start : (low high : ℤ) (xs : List ℤ) → Tested low high xs 0 true
unfolding all_between all
tested-start low high xs = record { below = omega arith; is = refl }

pub tested-step : (low high : ℤ) (xs : List ℤ) (i : ℕ) {all inside : Bool} → Tested low high xs i all → i < length xs
    → inside ≡ between low high (get_or xs i (pos 0)) → Tested low high xs (i + 1) (all && inside)
unfolding all_between
tested-step low high xs i {all} {inside} r h e =
    record {
      below = omega arith;
      is =
          both_and all inside
          ∙ ap₂ (λ s t. cond s t false) r.is e
          ∙ sym (all-last (between low high) (take i xs) (get_or xs i (pos 0)))
          ∙ ap (all_between low high) (sym (take-suc xs i (pos 0) h) ∙ ap (λ (k : ℕ). take k xs) (sym (add-one i)));
    }

-- ---- row 8

pub coefficients-at : (xs : List ℤ) → coefficients xs ≡ true → (i : ℕ) → nat_abs (get_or xs i (pos 0)) ≤ 2147483598
unfolding coefficients
coefficients-at xs e i = all_within-at 2147483598 xs e i

pub coefficients_of : (xs : List ℤ) → ((i : ℕ) → i < length xs → nat_abs (get_or xs i (pos 0)) ≤ 2147483598) → coefficients xs ≡ true
unfolding coefficients
coefficients_of xs h = all_within_of 2147483598 xs h

pub coefficients-join : (xs ys : List ℤ) → coefficients xs ≡ true → coefficients ys ≡ true → coefficients (xs ++ ys) ≡ true
unfolding coefficients
coefficients-join xs ys e f = all_within-join 2147483598 xs ys e f

pub coefficients-part : (m n : ℕ) (xs : List ℤ) → coefficients xs ≡ true → coefficients (take n (drop m xs)) ≡ true
unfolding coefficients
coefficients-part m n xs e = all_within-part 2147483598 m n xs e

-- ---- row 9

pub projection-entries-at : (xs : List ℤ) → projection_entries xs ≡ true → (i : ℕ) → nat_abs (get_or xs i (pos 0)) ≤ 1
unfolding projection_entries
projection-entries-at xs e i = all_within-at 1 xs e i

pub projection-entries-part : (m n : ℕ) (xs : List ℤ) → projection_entries xs ≡ true → projection_entries (take n (drop m xs)) ≡ true
unfolding projection_entries
projection-entries-part m n xs e = all_within-part 1 m n xs e

-- ---- row 10

-- the rule of degree 64 as three tests
pub counted-tests : (xs : List ℤ) {zeros ones twos : ℕ} → zeros ≡ count_of 0 xs → ones ≡ count_of 1 xs → twos ≡ count_of 2 xs
    → eqb zeros 23 && eqb ones 31 && eqb twos 10 ≡ counted_challenge xs
unfolding counted_challenge
counted-tests xs e f g = rw (e, f, g) refl

-- that of the smaller degrees as two, the second on what 71 leaves
pub short-tests : (xs : List ℤ) {small short : Bool} {margin : Option ℕ} → small ≡ all_within 2 xs → margin ≡ remaining 71 (norm_sq xs)
    → short ≡ holds margin → small && short ≡ short_challenge xs
unfolding short_challenge
short-tests xs e m h = rw (e, h, m, holds-remaining) (both_and (all_within 2 xs) (leb (norm_sq xs) 71))

-- the rule by the number of coefficients
pub challenge_64 : (xs : List ℤ) → length xs ≡ 64 → challenge xs ≡ counted_challenge xs
unfolding challenge
challenge_64 xs h = ap (λ (t : Bool). cond t (counted_challenge xs) (short_challenge xs)) (eq-eqb (length xs) 64 h)

pub challenge-other : (xs : List ℤ) → (length xs ≡ 64 → ⊥) → challenge xs ≡ short_challenge xs
unfolding challenge
challenge-other xs h = ap (λ (t : Bool). cond t (counted_challenge xs) (short_challenge xs)) (ne_eqb (length xs) 64 h)

-- ---- row 15

pub all_narrow-at : (b : ℕ) (xs : List ℤ) → all_narrow b xs ≡ true → (i : ℕ) → nat_abs (get_or xs i (pos 0)) * 2 ≤ b
unfolding all_narrow
all_narrow-at b xs e i = leb-true _ b (all-at (λ x. leb (nat_abs x * 2) b) xs (pos 0) (le-leb 0 b (omega arith)) e i)

pub all_narrow_of : (b : ℕ) (xs : List ℤ) → ((i : ℕ) → i < length xs → nat_abs (get_or xs i (pos 0)) * 2 ≤ b) → all_narrow b xs ≡ true
unfolding all_narrow
all_narrow_of b xs h = all_of (λ x. leb (nat_abs x * 2) b) xs (pos 0) (λ i l. le-leb _ b (h i l))

-- a number of more than half the base
pub record WideAt (b : ℕ) (xs : List ℤ) : Type 0 where
  pub place : ℕ
  pub inside : place < length xs
  pub wide : b < nat_abs (get_or xs place (pos 0)) * 2

pub all_narrow_false : (b : ℕ) (xs : List ℤ) → all_narrow b xs ≡ false → WideAt b xs
unfolding all_narrow
all_narrow_false b xs e =
    let one = all_false (λ x. leb (nat_abs x * 2) b) xs (pos 0) e in
    record { place = one.place; inside = one.inside; wide = leb-false _ b one.fails }

-- x ≤ b/2, with b/2 rounded down, is 2x ≤ b
half-narrow : (b x : ℕ) → leb x (b / 2) ≡ leb (x * 2) b
half-narrow b x = pick (ltb (b / 2) x) refl
  where
    pick : (t : Bool) → ltb (b / 2) x ≡ t → leb x (b / 2) ≡ leb (x * 2) b
    pick true e = lt-leb x (b / 2) (ltb-true (b / 2) x e) ∙ sym (lt-leb (x * 2) b (omega (arith, ltb-true (b / 2) x e)))
    pick false e = le-leb x (b / 2) (ltb-false (b / 2) x e) ∙ sym (le-leb (x * 2) b (omega (arith, ltb-false (b / 2) x e)))

within-narrow : (b : ℕ) (xs : List ℤ) → all_within (b / 2) xs ≡ all_narrow b xs
unfolding all_within all_narrow all
within-narrow b [] = refl
within-narrow b (x ∷ xs) = rw (half-narrow b (nat_abs x), within-narrow b xs) refl

-- from -b/2 to b/2
pub narrow-between : (b : ℕ) (xs : List ℤ) → 2 ≤ b → all_between (neg_ℤ (pos (b / 2))) (pos (b / 2)) xs ≡ all_narrow b xs
narrow-between b xs h = by (b / 2) refl ∙ within-narrow b xs
  where
    by : (m : ℕ) → b / 2 ≡ m → all_between (neg_ℤ (pos (b / 2))) (pos (b / 2)) xs ≡ all_within (b / 2) xs
    by zero e = absurd (omega (arith, e))
    by (suc m) e = rw e (between-bound m xs)
