-- How large the lengths can be within the limits of rows 1 to 4: at most 136 pairs, 4232 elements of a constraint's functions, 1024 of
-- the t digits, 1088 of the g or h digits and 3712 of an opening, whose z has at most two digits.
use Rattle.std.specs.Prelude.{◌≡◌, ℕ, ◌+◌, ◌*◌, ◌/◌, ◌^◌, ◌≤◌, T, ltb}
use Rattle.std.proofs.Common.{mul-le-mul, lt_of_le_of_lt, arith, ltb→lt, Fits}
use Rattle.std.specs.Int.{w64}
use Rattle.algebra.specs.Laws.TriangleLaws.{pairs-count-twice}
use Rattle.fold.specs.Sizes.{pairs, function_size, t_size, garbage_size, rest_size, opening_size}
use Rattle.fold.specs.Limits.{most_commitment_rank, most_digits, most_parts, most_rank}

-- a bound for a product
pub product-bound : (x y a b : ℕ) → x ≤ a → y ≤ b → x * y ≤ a * b
product-bound x y a b h k = mul-le-mul h k

pub product-fits : (x y a b : ℕ) → x ≤ a → y ≤ b → T (ltb (a * b) (2 ^ 64)) → Fits w64 (x * y)
product-fits x y a b h k l = record { fits = lt_of_le_of_lt (product-bound x y a b h k) (ltb→lt (a * b) (2 ^ 64) l) }

pub pairs-twice : (r : ℕ) → pairs r * 2 ≡ r * (r + 1)
unfolding pairs
pairs-twice r = pairs-count-twice r

pub pairs-half : (r : ℕ) → r * (r + 1) / 2 ≡ pairs r
pairs-half r = omega (arith, pairs-twice r)

pub pairs-bound : (r : ℕ) → r ≤ most_parts → pairs r ≤ 136
pairs-bound r h = omega (arith, pairs-twice r, product-bound r (r + 1) 16 17 (omega arith) (omega arith))

pub function_size-bound : (n r : ℕ) → n ≤ most_rank → r ≤ most_parts → function_size n r ≤ 4232
unfolding function_size
function_size-bound n r h k = omega (arith, pairs-bound r k, product-bound r n 16 256 k h)

pub t_size-bound : (r κ t₁ : ℕ) → r ≤ most_parts → κ ≤ most_commitment_rank → t₁ ≤ most_digits → t_size r κ t₁ ≤ 1024
unfolding t_size
t_size-bound r κ t₁ h k l =
    let inner : t₁ * κ ≤ 64 = product-bound t₁ κ 8 8 l k in product-bound r (t₁ * κ) 16 64 h inner

pub garbage_size-bound : (r t : ℕ) → r ≤ most_parts → t ≤ most_digits → garbage_size r t ≤ 1088
unfolding garbage_size
garbage_size-bound r t h k = product-bound (pairs r) t 136 8 (pairs-bound r h) k

pub opening_size-bound : (tz n r κ t₁ t₂ : ℕ) → tz ≤ 2 → n ≤ most_rank → r ≤ most_parts → κ ≤ most_commitment_rank → t₁ ≤ most_digits → t₂ ≤ most_digits → opening_size tz n r κ t₁ t₂ ≤ 3712
unfolding opening_size rest_size
opening_size-bound tz n r κ t₁ t₂ few h k l u v =
    omega (arith, product-bound tz n 2 256 few h, t_size-bound r κ t₁ k l u, garbage_size-bound r t₂ k v, garbage_size-bound r t₁ k u)
