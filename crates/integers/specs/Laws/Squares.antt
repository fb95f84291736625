-- Inequalities between squares: a sum of two, a difference of two integers, and Cauchy-Schwarz for finite sums.
use Rattle.std.specs.Prelude.{◌≡◌, refl, Bool, true, false, ℕ, zero, suc, ◌+◌, ◌-◌, ◌*◌, ◌≤◌, leb, ℤ, nat_abs, ◌+ℤ◌, ◌-ℤ◌, ◌*ℤ◌}
use Rattle.std.proofs.Common.{mul-le-mul, arith, leb-true, leb-false}
use Rattle.integers.specs.Laws.Bridge.{pn_min, nat_abs_pn, add_pn, sub_pn, abs_mul}
use Rattle.integers.specs.Sums.{total, sq}

-- ---- two numbers

-- 2ab ≤ a² + b², for the greater written as the other and a rest
mean_rest : (a c : ℕ) → 2 * (a * (a + c)) ≤ a * a + (a + c) * (a + c)
mean_rest a c = omega arith

pub square_mean : (a b : ℕ) → 2 * (a * b) ≤ a * a + b * b
square_mean a b = side (leb a b) refl
  where
    side : (t : Bool) → leb a b ≡ t → 2 * (a * b) ≤ a * a + b * b
    side true e = let s : a + (b - a) ≡ b = omega (arith, leb-true a b e) in rw s at (mean_rest a (b - a))
    side false e = let s : b + (a - b) ≡ a = omega (arith, leb-false a b e) in omega (arith, rw s at (mean_rest b (a - b)))

pub square-sum : (a b : ℕ) → (a + b) * (a + b) ≤ 2 * (a * a) + 2 * (b * b)
square-sum a b = omega (arith, square_mean a b)

-- ---- integers

pub nat_abs_sum : (x y : ℤ) → nat_abs (x +ℤ y) ≤ nat_abs x + nat_abs y
nat_abs_sum x y = omega (arith, nat_abs_pn x, nat_abs_pn y, nat_abs_pn (x +ℤ y), add_pn x y, pn_min (x +ℤ y))

pub nat_abs_difference : (x y : ℤ) → nat_abs (x -ℤ y) ≤ nat_abs x + nat_abs y
nat_abs_difference x y = omega (arith, nat_abs_pn x, nat_abs_pn y, nat_abs_pn (x -ℤ y), sub_pn x y, pn_min (x -ℤ y))

pub nat_abs_product : (x y : ℤ) → nat_abs (x *ℤ y) ≡ nat_abs x * nat_abs y
nat_abs_product x y = rw (nat_abs_pn x, nat_abs_pn y, nat_abs_pn (x *ℤ y)) (abs_mul x y)

pub sq_mono : (x y : ℤ) → nat_abs x ≤ nat_abs y → sq x ≤ sq y
unfolding sq
sq_mono x y h = mul-le-mul h h

pub sq-difference : (x y : ℤ) → sq (x -ℤ y) ≤ 2 * sq x + 2 * sq y
unfolding sq
sq-difference x y =
    let h = nat_abs_difference x y in
    omega (arith, mul-le-mul h h, square-sum (nat_abs x) (nat_abs y))

-- ---- Cauchy-Schwarz

-- twice one summand times a sum
cross : (n : ℕ) (w x : ℕ → ℕ) (a b : ℕ)
    → 2 * (total n (λ e. w e * x e) * (a * b)) ≤ total n (λ e. w e * w e) * (b * b) + a * a * total n (λ e. x e * x e)
unfolding total
cross zero w x a b = omega arith
cross (suc n) w x a b = omega (arith, cross n w x a b, square_mean (w n * b) (x n * a))

pub cauchy_schwarz : (n : ℕ) (w x : ℕ → ℕ)
    → total n (λ e. w e * x e) * total n (λ e. w e * x e) ≤ total n (λ e. w e * w e) * total n (λ e. x e * x e)
unfolding total
cauchy_schwarz zero w x = omega arith
cauchy_schwarz (suc n) w x = omega (arith, cauchy_schwarz n w x, cross n w x (w n) (x n))
