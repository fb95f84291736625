-- The conditions of rows 8, 9, 10 and 15 (SPECIFICATION 7) on the numbers of a slice.
use Rattle.std.specs.Prelude.{Bool, false, cond, not, ◌&&◌, List, [], ◌∷◌, ℕ, ◌+◌, ◌*◌, leb, eqb, length, ℤ, nat_abs}
use Rattle.std.specs.Int.Signed.{lt_z}
use Rattle.integers.specs.Lists.{all}
use Rattle.integers.specs.Sums.{norm_sq}

-- low ≤ x ≤ high
unfoldable pub between : ℤ → ℤ → ℤ → Bool
between low high x = not (lt_z x low) && not (lt_z high x)

unfoldable pub all_between : ℤ → ℤ → List ℤ → Bool
all_between low high xs = all (between low high) xs

-- every number has an absolute value of at most b
unfoldable pub all_within : ℕ → List ℤ → Bool
all_within b xs = all (λ x. leb (nat_abs x) b) xs

-- row 8: "coefficient, or other number modulo q, out of range"
unfoldable pub coefficients : List ℤ → Bool
coefficients xs = all_within 2147483598 xs

-- row 9: "projection entry not -1, 0, 1"
unfoldable pub projection_entries : List ℤ → Bool
projection_entries xs = all_within 1 xs

-- row 10 (SPECIFICATION 5.1), for the numbers of one challenge

-- how many of the numbers have the absolute value a
unfoldable pub count_of : ℕ → List ℤ → ℕ
count_of a [] = 0
count_of a (x ∷ xs) = cond (eqb (nat_abs x) a) 1 0 + count_of a xs

-- "at degree 64, exactly 23 coefficients are zero, 31 are +1 or -1, and 10 are +2 or -2"
unfoldable pub counted_challenge : List ℤ → Bool
counted_challenge xs = eqb (count_of 0 xs) 23 && eqb (count_of 1 xs) 31 && eqb (count_of 2 xs) 10

-- "At each smaller degree, a challenge c has coefficients -2 to 2 and squared length at most 71."
unfoldable pub short_challenge : List ℤ → Bool
short_challenge xs = cond (all_within 2 xs) (leb (norm_sq xs) 71) false

-- the rule of the challenge's own degree
unfoldable pub challenge : List ℤ → Bool
challenge xs = cond (eqb (length xs) 64) (counted_challenge xs) (short_challenge xs)

-- row 15, for low digits to base b: none has an absolute value of "more than half its base"
unfoldable pub all_narrow : ℕ → List ℤ → Bool
all_narrow b xs = all (λ x. leb (nat_abs x * 2) b) xs
