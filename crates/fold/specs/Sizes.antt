-- The numbers that shape a fold, and the lengths they give. SPECIFICATION 3, 4 and 8.
use Rattle.std.specs.Prelude.{Bool, true, false, ℕ, ◌+◌, ◌*◌, ◌-◌, ◌/◌, max}
use Rattle.algebra.specs.Triangle.{pairs-count}

-- message 3: "Five is the count, since q^4 < 2^128."
abbrev pub five : ℕ
five = 5

-- "A statement keeps z in two digits to base b, or in one". Definitions take the number of digits of z as tz. By whether there is one:
abbrev pub count_if : Bool → ℕ
count_if true = 1
count_if false = 2

-- "The sheet keeps two digits"
abbrev pub z_count : ℕ
z_count = 2

-- the number of pairs i ≤ j of r parts: (r² + r)/2
unfoldable pub pairs : ℕ → ℕ
pairs r = pairs-count r

-- elements of the a and φ of a constraint on r parts of rank n
unfoldable pub function_size : (n r : ℕ) → ℕ
function_size n r = pairs r + r * n

-- elements of the t, g and h digits of an opening
unfoldable pub t_size : (r κ t₁ : ℕ) → ℕ
t_size r κ t₁ = r * (t₁ * κ)

unfoldable pub garbage_size : (r t : ℕ) → ℕ
garbage_size r t = pairs r * t

-- "m = rκt1 + (r²+r)/2 · (t1+t2)": t, g and h together
unfoldable pub rest_size : (r κ t₁ t₂ : ℕ) → ℕ
rest_size r κ t₁ t₂ = t_size r κ t₁ + (garbage_size r t₂ + garbage_size r t₁)

-- elements of an opening whose z has tz digits
unfoldable pub opening_size : (tz n r κ t₁ t₂ : ℕ) → ℕ
opening_size tz n r κ t₁ t₂ = tz * n + rest_size r κ t₁ t₂

-- a / b rounded up, for b above 0
unfoldable pub ceiling : ℕ → ℕ → ℕ
ceiling a b = (a + (b - 1)) / b

-- "n' is the larger of the two"
unfoldable pub next_rank : (n ν m μ : ℕ) → ℕ
next_rank n ν m μ = max (ceiling n ν) (ceiling m μ)

-- "r' = 2ν+μ, with one z digit r' = ν+μ": ν parts of each of the tz digits of z, and μ of the rest
unfoldable pub next_parts : (tz ν μ : ℕ) → ℕ
next_parts tz ν μ = tz * ν + μ

-- "K' = κ+κ1+κ2+3"
unfoldable pub next_count : (κ κ₁ κ₂ : ℕ) → ℕ
next_count κ κ₁ κ₂ = κ + κ₁ + κ₂ + 3
