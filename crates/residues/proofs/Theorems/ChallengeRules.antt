-- SPECIFICATION 5.1, a challenge: the rule of each degree.
--     degree_64            "at degree 64, exactly 23 coefficients are zero, 31 are +1 or -1, and 10 are +2 or -2"
--     smaller-degree       "At each smaller degree, a challenge c has coefficients -2 to 2 and squared length at most 71."
use Rattle.std.specs.Prelude.{◌≡◌, refl, Bool, true, false, ◌&&◌, ◌↔◌, List, ℕ, ◌≤◌, ◌<◌, T, length, get_or, ℤ, pos, nat_abs}
use Rattle.std.proofs.Common.{sym, subst, arith, le-leb, leb-true, eqb-true}
use Rattle.integers.specs.Sums.{norm_sq}
use Rattle.integers.specs.Laws.AllLaws.{both_left, both_right, both_true}
use Rattle.residues.specs.Range.{all_within, count_of, counted_challenge, short_challenge, challenge}
use Rattle.residues.proofs.Laws.RangeLaws.{all_within-at, all_within_of, challenge_64, challenge-other}

-- ---- the two rules

-- the counts of the rule of degree 64; what a count is: `count-is`, ../Laws/CountLaws.antt
abbrev pub Counts : List ℤ → Type 0
Counts xs = (count_of 0 xs ≡ 23) × (count_of 1 xs ≡ 31) × (count_of 2 xs ≡ 10)

three-tests : (s t u : Bool) → s && t && u ≡ true → (s ≡ true) × (t ≡ true) × (u ≡ true)
three-tests true true u e = (refl, refl, e)
three-tests true false u e = absurd (subst T (sym e) tt)
three-tests false t u e = absurd (subst T (sym e) tt)

counted-exactly : (xs : List ℤ) → (counted_challenge xs ≡ true) ↔ Counts xs
unfolding counted_challenge
counted-exactly xs = (
  λ e. let (zeros, ones, twos) = three-tests _ _ _ e in (eqb-true _ 23 zeros, eqb-true _ 31 ones, eqb-true _ 10 twos),
  λ (zeros, ones, twos). rw (zeros, ones, twos) refl,
)

pub short-exactly : (xs : List ℤ) → (short_challenge xs ≡ true) ↔ (((k : ℕ) → nat_abs (get_or xs k (pos 0)) ≤ 2) × (norm_sq xs ≤ 71))
unfolding short_challenge
short-exactly xs = (
  λ e. (all_within-at 2 xs (both_left (all_within 2 xs) _ e), leb-true (norm_sq xs) 71 (both_right (all_within 2 xs) _ e)),
  λ h. both_true (all_within 2 xs) _ (all_within_of 2 xs (λ k l. h.0 k)) (le-leb (norm_sq xs) 71 h.1),
)

pub degree_64 : (c : List ℤ) → length c ≡ 64 → (challenge c ≡ true) ↔ Counts c
degree_64 c size = rw (challenge_64 c size) (counted-exactly c)

pub smaller-degree : (c : List ℤ) → length c < 64 → (challenge c ≡ true) ↔ (((k : ℕ) → nat_abs (get_or c k (pos 0)) ≤ 2) × (norm_sq c ≤ 71))
smaller-degree c size = rw (challenge-other c (λ e. omega arith)) (short-exactly c)
