-- SPECIFICATION 4.5: "The opening is the digits of z, t, g, h. Order: z low, z high, with one digit z; t by part, then digit, then row; g and h by i,
-- then j, then digit." The opening is one list; `block d o a` stands for its elements from place a on.
use Rattle.std.specs.Prelude.{List, ℕ, ◌+◌, ◌*◌, take, drop, ℤ}
use Rattle.integers.specs.Sums.{norm_sq}
use Rattle.algebra.specs.Triangle.{pair}
use Rattle.ring.specs.Element.{R, el}
use Rattle.ring.specs.Joined.{joined}
use Rattle.fold.specs.Sizes.{t_size, garbage_size}

unfoldable pub block : (d : ℕ) (o : List ℤ) → ℕ → ℕ → (R d).Carrier
block d o a y = el d o (a + y)

-- the places where t, g and h start
unfoldable pub t_place : (tz n : ℕ) → ℕ
t_place tz n = tz * n

unfoldable pub g_place : (tz n r κ t₁ : ℕ) → ℕ
g_place tz n r κ t₁ = t_place tz n + t_size r κ t₁

unfoldable pub h_place : (tz n r κ t₁ t₂ : ℕ) → ℕ
h_place tz n r κ t₁ t₂ = g_place tz n r κ t₁ + garbage_size r t₂

-- recomposed: element k of z, row k of t_i, and g_ij or h_ij
unfoldable pub z_of : (d n tz b : ℕ) → (ℕ → (R d).Carrier) → ℕ → (R d).Carrier
z_of d n tz b x k = joined d b tz (λ e. x (e * n + k))

unfoldable pub t_of : (d κ b₁ t₁ : ℕ) → (ℕ → (R d).Carrier) → ℕ → ℕ → (R d).Carrier
t_of d κ b₁ t₁ x i k = joined d b₁ t₁ (λ e. x ((i * t₁ + e) * κ + k))

unfoldable pub garbage_of : (d r b t : ℕ) → (ℕ → (R d).Carrier) → ℕ → ℕ → (R d).Carrier
garbage_of d r b t x i j = joined d b t (λ e. x (pair r i j * t + e))

-- the squared lengths of the z digits, of the t and g digits, and of the h digits
unfoldable pub z_length : (d n tz : ℕ) (o : List ℤ) → ℕ
z_length d n tz o = norm_sq (take (tz * n * d) o)

unfoldable pub tg_length : (d n r tz κ t₁ t₂ : ℕ) (o : List ℤ) → ℕ
tg_length d n r tz κ t₁ t₂ o = norm_sq (take ((t_size r κ t₁ + garbage_size r t₂) * d) (drop (t_place tz n * d) o))

unfoldable pub h_length : (d n r tz κ t₁ t₂ : ℕ) (o : List ℤ) → ℕ
h_length d n r tz κ t₁ t₂ o = norm_sq (take (garbage_size r t₁ * d) (drop (h_place tz n r κ t₁ t₂ * d) o))

-- and of all digits
abbrev pub digits_length : (d n r tz κ t₁ t₂ : ℕ) (o : List ℤ) → ℕ
digits_length d n r tz κ t₁ t₂ o = z_length d n tz o + tg_length d n r tz κ t₁ t₂ o + h_length d n r tz κ t₁ t₂ o
