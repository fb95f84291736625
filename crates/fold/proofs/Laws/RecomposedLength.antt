-- The squared length of recomposed digits: n elements with t digits each to base b are at most Σ b^{2e} times as long as their digits.
-- Centring only shortens, and the rest is Cauchy-Schwarz over the digits of each coefficient.
use Rattle.std.specs.Prelude.{◌≡◌, List, ℕ, zero, suc, ◌+◌, ◌*◌, ◌^◌, ◌<◌, ◌≤◌, length, ℤ, pos, nat_abs, ◌*ℤ◌}
use Rattle.std.proofs.Common.{◌∙◌, le_trans, mul-le-mul, pow-suc}
use Rattle.std.proofs.Math.Nat.{pow-zero}
use native.Mathlib.Omega.{arith}
use Rattle.std.proofs.Math.ListN.{get_or}
use Rattle.integers.specs.Laws.FlatLaws.{norm_sq-flat}
use Rattle.integers.specs.Sums.{total, sq, norm_sq}
use Rattle.integers.specs.Laws.SumLaws.{total_cong, total_mono, total-times, total_swap, total_blocks, norm_sq-total, norm_sq-tab}
use Rattle.integers.specs.Laws.Squares.{nat_abs_sum, nat_abs_product, cauchy_schwarz}
use Rattle.algebra.specs.Polynomial.{coeff}
use Rattle.residues.specs.Modulus.{Zq, cent, centred}
use Rattle.residues.proofs.Laws.ModulusLaws.{centred-shorter}
use Rattle.ring.specs.Element.{el, coeffs}
use Rattle.residues.specs.Digits.{value}
use Rattle.ring.specs.Laws.DigitElements.{cent-joined-el}
use Rattle.fold.specs.Messages.{elements}
use Rattle.fold.specs.Opening.{z_of}

-- ---- weights

-- the weights of digit e, squared
power-square : (b e : ℕ) → b ^ e * b ^ e ≡ b ^ (2 * e)
power-square b zero = rw (pow-zero b)
power-square b (suc e) =
    let step : 2 * suc e ≡ suc (suc (2 * e)) = omega arith in
    rw (step, pow-suc b (suc (2 * e)), pow-suc b (2 * e), pow-suc b e, ← power-square b e) (omega arith)

pub one-weight : (b : ℕ) → total 1 (λ e. b ^ (2 * e)) ≡ 1
unfolding total
one-weight b = let none : b ^ (2 * 0) ≡ 1 = pow-zero b in omega arith

pub two-weights : (b : ℕ) → total 2 (λ e. b ^ (2 * e)) ≡ 1 + b * b
unfolding total
two-weights b =
    let none : b ^ (2 * 0) ≡ 1 = pow-zero b in
    let one : b ^ 1 ≡ b = pow-suc b 0 ∙ rw (pow-zero b) (omega arith) in
    let two : b ^ (2 * 1) ≡ b * b = rw one at (pow-suc b 1) in
    omega arith

-- ---- one coefficient

nat_abs_value : (b t : ℕ) (x : ℕ → ℤ) → nat_abs (value b t x) ≤ total t (λ e. b ^ e * nat_abs (x e))
unfolding value total
nat_abs_value b zero x = omega arith
nat_abs_value b (suc t) x =
    omega (arith, nat_abs_value b t x, nat_abs_sum (value b t x) (pos (b ^ t) *ℤ x t), nat_abs_product (pos (b ^ t)) (x t))

sq-value : (b t : ℕ) (x : ℕ → ℤ) → sq (centred (value b t x)) ≤ total t (λ e. b ^ (2 * e)) * total t (λ e. sq (x e))
unfolding sq
sq-value b t x =
    let S = total t (λ e. b ^ e * nat_abs (x e)) in
    let short : nat_abs (centred (value b t x)) ≤ S = le_trans (centred-shorter (value b t x)) (nat_abs_value b t x) in
    rw (← total_cong t (λ e. b ^ e * b ^ e) (λ e. b ^ (2 * e)) (λ e _. power-square b e))
    (le_trans (mul-le-mul short short) (cauchy_schwarz t (λ e. b ^ e) (λ e. nat_abs (x e))))

-- ---- all coefficients of n elements

-- numbers in the order digit, element, coefficient, summed over elements, coefficients, digits
total_order : (t n d : ℕ) (f : ℕ → ℕ)
    → total (t * n * d) f ≡ total n (λ y. total d (λ k. total t (λ e. f ((e * n + y) * d + k))))
total_order t n d f =
    total_blocks (t * n) d f
    ∙ total_blocks t n (λ p. total d (λ k. f (p * d + k)))
    ∙ total_swap t n (λ e y. total d (λ k. f ((e * n + y) * d + k)))
    ∙ total_cong n _ _ (λ y _. total_swap t d (λ e k. f ((e * n + y) * d + k)))

module _ (d n t b : ℕ) (xs : List ℤ) where
  -- the square of digit e of coefficient k of element y
  digit_sq : ℕ → ℕ → ℕ → ℕ
  digit_sq y k e = sq (get_or xs ((e * n + y) * d + k) (pos 0))

  weight : ℕ
  weight = total t (λ e. b ^ (2 * e))

  entry : (y k : ℕ) → k < d → sq (cent (coeff Zq (z_of d n t b (el d xs) y) k)) ≤ weight * total t (digit_sq y k)
  unfolding digit_sq weight z_of
  entry y k l =
      rw (cent-joined-el d b t xs (λ e. e * n + y) k l) (sq-value b t (λ e. get_or xs ((e * n + y) * d + k) (pos 0)))

  row : (y : ℕ) → norm_sq (coeffs d (z_of d n t b (el d xs) y)) ≤ weight * total d (λ k. total t (digit_sq y k))
  unfolding coeffs
  row y = omega (
    arith,
    norm_sq-tab d (λ k. cent (coeff Zq (z_of d n t b (el d xs) y) k)),
    total_mono d _ (λ k. weight * total t (digit_sq y k)) (λ k l. entry y k l),
    total-times d weight (λ k. total t (digit_sq y k)),
  )

  pub recomposed-short : length xs ≡ t * n * d
      → norm_sq (elements d n (z_of d n t b (el d xs))) ≤ total t (λ e. b ^ (2 * e)) * norm_sq xs
  unfolding elements digit_sq weight
  recomposed-short size =
      rw (norm_sq-total xs, size, total_order t n d (λ i. sq (get_or xs i (pos 0))))
      (omega (
        arith,
        norm_sq-flat n (λ y. coeffs d (z_of d n t b (el d xs) y)),
        total_mono n _ (λ y. weight * total d (λ k. total t (digit_sq y k))) (λ y _. row y),
        total-times n weight (λ y. total d (λ k. total t (digit_sq y k))),
      ))
