-- Laws of what Places.antt defines.
use Rattle.std.specs.Prelude.{◌≡◌, refl, List, ℕ, suc, ◌+◌, ◌*◌, ◌-◌, ◌<◌, ◌≤◌, ℤ}
use Rattle.std.proofs.Math.Path.{ap}
use Rattle.std.proofs.Common.{mul-le-mul_right}
use native.Mathlib.Omega.{arith}
use Rattle.algebra.specs.Sum.{sum}
use Rattle.algebra.specs.Triangle.{pair}
use Rattle.algebra.specs.DotProduct.{inner}
use Rattle.ring.specs.Element.{R, el}
use Rattle.ring.specs.Laws.ElementPlaces.{place-below, element-within}
use Rattle.ring.specs.Joined.{joined}
use Rattle.ring.specs.Laws.DigitElements.{joined_cong}
use Rattle.fold.specs.Messages.{times}
use Rattle.fold.specs.Opening.{block, z_of, t_of, garbage_of}
use Rattle.checks.specs.Places.{garbage_at}

-- ---- recomposition

pub garbage-at : (d r b t : ℕ) (x : ℕ → (R d).Carrier) (i j q : ℕ) → q ≡ pair r i j → garbage_at d b t x q ≡ garbage_of d r b t x i j
unfolding garbage_at garbage_of
garbage-at d r b t x i j q e = rw e refl

module _ (d b t : ℕ) (o : List ℤ) (a : ℕ) where
  pub t-recomposed : (κ i k first : ℕ) → first ≡ a + i * t * κ + k
      → joined d b t (λ e. el d o (first + e * κ)) ≡ t_of d κ b t (block d o a) i k
  unfolding t_of block
  t-recomposed κ i k first h = joined_cong d b t _ _ (λ e _. ap (el d o) (place e))
    where
      place : (e : ℕ) → first + e * κ ≡ a + ((i * t + e) * κ + k)
      place e = omega arith

  pub garbage-recomposed : (q first : ℕ) → first ≡ a + q * t → joined d b t (λ e. el d o (first + e * 1)) ≡ garbage_at d b t (block d o a) q
  unfolding garbage_at block
  garbage-recomposed q first h = joined_cong d b t _ _ (λ e _. ap (el d o) (place e))
    where
      place : (e : ℕ) → first + e * 1 ≡ a + (q * t + e)
      place e = omega arith

pub z-recomposed : (d n tz b : ℕ) (o : List ℤ) (k : ℕ) → joined d b tz (λ e. el d o (k + e * n)) ≡ z_of d n tz b (el d o) k
unfolding z_of
z-recomposed d n tz b o k = joined_cong d b tz _ _ (λ e _. ap (el d o) (place e))
  where
    place : (e : ℕ) → k + e * n ≡ e * n + k
    place e = omega arith

-- the last digit's place, and the first one's
pub t-digit-fits : (d κ t a i k l : ℕ) → k < κ → 0 < t → (a + (i * t + t) * κ) * d ≤ l → (a + i * t * κ + k + (t - 1) * κ) * d + d ≤ l
t-digit-fits d κ t a i k l h above fits =
    let last : (t - 1) * κ + κ ≡ t * κ = let one : t ≡ suc (t - 1) = omega arith in omega (arith, ap (λ x. x * κ) one) in
    let below : suc (a + i * t * κ + k + (t - 1) * κ) ≤ a + (i * t + t) * κ = omega arith in
    omega (arith, mul-le-mul_right d below)

pub garbage-digit-fits : (d t a q l : ℕ) → 0 < t → (a + (q * t + t)) * d ≤ l → (a + q * t + (t - 1) * 1) * d + d ≤ l
garbage-digit-fits d t a q l above fits =
    let below : suc (a + q * t + (t - 1) * 1) ≤ a + (q * t + t) = omega arith in
    omega (arith, mul-le-mul_right d below)

pub z-digit-fits : (d n tz k l : ℕ) → k < n → 0 < tz → tz * n * d ≤ l → (k + (tz - 1) * n) * d + d ≤ l
z-digit-fits d n tz k l h above fits =
    let last : (tz - 1) * n + n ≡ tz * n = let one : tz ≡ suc (tz - 1) = omega arith in omega (arith, ap (λ x. x * n) one) in
    let below : suc (k + (tz - 1) * n) ≤ tz * n = omega arith in
    omega (arith, mul-le-mul_right d below)

-- ---- rows of a matrix

pub row-times : (d m : ℕ) (M : List ℤ) (k : ℕ) (o : List ℤ) (a : ℕ)
    → sum (R d) m (λ y. (R d).mul (el d M (k * m + y)) (el d o (a + y))) ≡ times d m M k (block d o a)
unfolding times inner block
row-times d m M k o a = refl

-- row k of m columns lies within a matrix of more rows
pub row_fits : (d m rows k count l : ℕ) → count ≡ m → l ≡ rows * m * d → k < rows → (k * count + count) * d ≤ l
row_fits d m rows k count l e whole h =
    let below : k * m + m ≤ rows * m = omega (arith, mul-le-mul_right m h) in
    rw e (omega (arith, mul-le-mul_right d below, whole))

pub part-fits : (d : ℕ) {p m place count l : ℕ} → place ≡ p → count ≡ m → (p + m) * d ≤ l → (place + count) * d ≤ l
part-fits d e f h = rw (e, f) h

-- element k of a list of n
pub element-fits : (d n k l : ℕ) → l ≡ n * d → k < n → k * d + d ≤ l
element-fits d n k l whole h = element-within d h (omega (arith, whole))

-- ---- the places themselves fit a machine word

pub t-first-within : (d κ t a i k l : ℕ) → 0 < d → k < κ → 0 < t → (a + (i * t + t) * κ) * d ≤ l → i * t + (a + i * t * κ + k) ≤ l + l
t-first-within d κ t a i k l above h digits fits =
    let one : 1 ≤ κ = omega arith in
    omega (arith, place-below d (a + (i * t + t) * κ) above fits, mul-le-mul_right (i * t + t) one, mul-le-mul_right κ digits)
