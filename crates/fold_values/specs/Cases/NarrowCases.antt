-- Row 15 (SPECIFICATION 7.i), computed: which numbers of an opening are low digits, and to which base. One number of the opening is not zero, each of
-- its numbers in turn. Sizes: d = r = κ = 2, n = t1 = 3, t2 = 4; b = 4, b1 = 6, b2 = 3.
use Rattle.std.specs.Prelude.{◌≡◌, refl, Bool, true, false, List, [], ◌∷◌, ◌++◌, ℕ, ◌-◌, replicate, ℤ}
use Rattle.integers.specs.Literals.{+◌, -◌, ◌zeros∷◌}
use Rattle.integers.specs.Lists.{tab}
use Rattle.fold.specs.Refusals.{narrow_digits}
use Rattle.fold_values.specs.Cases.Computing.{fold_computes}

-- z has tz digits, the opening so many numbers; is it narrow with x as its number k, for each k?
abbrev pub narrow_with : (tz numbers : ℕ) → ℤ → List Bool
narrow_with tz numbers x = tab numbers (λ k. narrow_digits 2 3 2 tz 2 4 6 3 3 4 (k zeros∷ (x ∷ ((numbers - k - 1) zeros∷ []))))

-- so many low digits, which x may not be, then so many top digits, which it may
abbrev pub low_top : (low top : ℕ) → List Bool
low_top low top = replicate low false ++ replicate top true

abbrev pub free : ℕ → List Bool
free count = replicate count true

-- z low and z high: 3 elements each; t: for each of 2 parts three digits of 2 rows; g: for each of 3 pairs four digits; h: for each of 3 pairs three
abbrev pub z : List Bool
z = low_top 6 6

abbrev pub t : List Bool
t = low_top 8 4 ++ low_top 8 4

abbrev pub g : List Bool
g = low_top 6 2 ++ low_top 6 2 ++ low_top 6 2

abbrev pub h : List Bool
h = low_top 4 2 ++ low_top 4 2 ++ low_top 4 2

pub record NarrowCases : Type 0 where
  -- half of 3 is one and a half, half of 4 is 2, half of 6 is 3
  pub one : narrow_with 2 78 (+ 1) ≡ free 78
  pub two : narrow_with 2 78 (+ 2) ≡ free 36 ++ g ++ free 18
  pub three : narrow_with 2 78 (- 3) ≡ z ++ free 24 ++ g ++ free 18
  pub four : narrow_with 2 78 (+ 4) ≡ z ++ t ++ g ++ h
  -- the top digit is free up to the end of row 8's range
  pub largest : narrow_with 2 78 (+ 2147483598) ≡ z ++ t ++ g ++ h
  pub least : narrow_with 2 78 (- 2147483598) ≡ z ++ t ++ g ++ h
  -- z in one digit is free
  pub one-digit : narrow_with 1 72 (- 4) ≡ free 6 ++ t ++ g ++ h

pub narrow_cases : NarrowCases
unfolding fold_computes
narrow_cases = record { one = refl; two = refl; three = refl; four = refl; largest = refl; least = refl; one-digit = refl }
