-- Centring as the machine computes it, by any modulus m that is not too large: each step stays in range, and together they give
-- `centre m x`.
use Rattle.std.specs.Prelude.{◌≡◌, ℕ, suc, ◌+◌, ◌/◌, ◌≤◌, ◌<◌, ℤ, negsuc, nat_abs, ◌+ℤ◌, ◌-ℤ◌, ◌*ℤ◌}
use Rattle.std.proofs.Math.Path.{ap}
use Rattle.std.proofs.Common.{◌∙◌, div-le_self, arith, SFits, to_z-of_z}
use Rattle.std.proofs.Math.IntN.{pos}
use Rattle.std.specs.Int.Signed.{quot_z, rem_z}
use Rattle.std.specs.Int.{w32, w64}
use Rattle.integers.specs.Laws.Bridge.{P, N, nat_abs_pn, pn_min, bnd, abs_bnd, mul-bnd, add_pn, neg_pn, mul_pn, zarith}
use Rattle.integers.specs.Remainder.{centre}
use Rattle.integers.specs.Laws.RemainderLaws.{emod-eq}
use Rattle.integers.specs.Laws.CentreLaws.{centre_range}
use Rattle.integers.specs.Laws.MachineDivision.{rem_z_lt, rem_z_nonneg, centre_rem_z}
use Rattle.residues.proofs.Laws.Words.{held}

-- a quotient is no longer than its dividend
pub quot_z_sign : (m : ℕ) (x : ℤ) → (P (quot_z x (pos m)) ≤ P x) × (N (quot_z x (pos m)) ≤ N x)
quot_z_sign m (pos a) = (div-le_self a m, omega arith)
quot_z_sign m (negsuc a) =
    (omega (arith, neg_pn (pos (suc a / m))), omega (arith, neg_pn (pos (suc a / m)), div-le_self (suc a) m))

pub quot_z_fits : (m : ℕ) (x : ℤ) → SFits w64 x → SFits w64 (quot_z x (pos m))
quot_z_fits m x h = omega (zarith, bnd x, quot_z_sign m x)

pub sum_fits : {x y : ℤ} → SFits w32 x → SFits w32 y → SFits w64 (x +ℤ y)
sum_fits {x} {y} h k = omega (zarith, bnd x, bnd y, add_pn x y)

pub sum_near : {x y : ℤ} → SFits w32 x → SFits w32 y → nat_abs (x +ℤ y) ≤ 4294967296
sum_near {x} {y} h k = omega (zarith, bnd x, bnd y, add_pn x y, nat_abs_pn (x +ℤ y), pn_min x, pn_min y, pn_min (x +ℤ y))

pub product-fits : {x y : ℤ} → SFits w32 x → SFits w32 y → SFits w64 (x *ℤ y)
product-fits {x} {y} h k = omega (zarith, mul-bnd x y (abs_bnd h) (abs_bnd k))

module _ (m : ℕ) (m>0 : 0 < m) (small : m ≤ 4294967296) (x : ℤ) where
  pub remainder-fits : SFits w64 (rem_z x (pos m))
  remainder-fits = omega (zarith, rem_z_lt m m>0 x, nat_abs_pn (rem_z x (pos m)))

  pub shifted_fits : SFits w64 (rem_z x (pos m) +ℤ pos (m + m / 2))
  shifted_fits = omega (zarith, rem_z_lt m m>0 x, nat_abs_pn (rem_z x (pos m)), add_pn (rem_z x (pos m)) (pos (m + m / 2)))

  low_fits : SFits w64 (rem_z (rem_z x (pos m) +ℤ pos (m + m / 2)) (pos m))
  low_fits = let y = rem_z x (pos m) +ℤ pos (m + m / 2) in omega (zarith, rem_z_lt m m>0 y, nat_abs_pn (rem_z y (pos m)))

  -- the steps' outcome
  centring : rem_z (rem_z x (pos m) +ℤ pos (m + m / 2)) (pos m) -ℤ pos (m / 2) ≡ centre m x
  centring = ap (λ (t : ℤ). rem_z t (pos m) -ℤ pos (m / 2)) (sum m (m / 2)) ∙ centre_rem_z m m>0 x
    where
      sum : (a b : ℕ) → rem_z x (pos m) +ℤ pos (a + b) ≡ rem_z x (pos m) +ℤ pos a +ℤ pos b
      sum a b = omega (
        zarith,
        add_pn (rem_z x (pos m)) (pos (a + b)),
        add_pn (rem_z x (pos m)) (pos a),
        add_pn (rem_z x (pos m) +ℤ pos a) (pos b),
      )

  pub centre-fits-wide : SFits w64 (centre m x)
  centre-fits-wide = omega (zarith, (centre_range m m>0 x).low, (centre_range m m>0 x).high)

  pub centre-fits : SFits w32 (centre m x)
  centre-fits = omega (zarith, (centre_range m m>0 x).low, (centre_range m m>0 x).high)

  -- ---- the same with the bits of the locals

  module _ (fits : SFits w64 x) where
    pub remainder-held : held (rem_z (held x) (pos m)) ≡ rem_z x (pos m)
    remainder-held = rw (to_z-of_z fits) (to_z-of_z remainder-fits)

    pub shifted-held : held (held (rem_z (held x) (pos m)) +ℤ pos (m + m / 2)) ≡ rem_z x (pos m) +ℤ pos (m + m / 2)
    shifted-held = rw remainder-held (to_z-of_z shifted_fits)

    pub low_held : held (rem_z (held (held (rem_z (held x) (pos m)) +ℤ pos (m + m / 2))) (pos m)) -ℤ pos (m / 2) ≡ centre m x
    low_held = rw (shifted-held, to_z-of_z low_fits) centring

-- ---- a number that is small already, by one remainder: x + m + m/2 is not negative

module _ (m : ℕ) (m>0 : 0 < m) (small : m ≤ 4294967296) (x : ℤ) (fits : SFits w64 x) (near : nat_abs x ≤ m + m / 2) where
  pub raised-fits : SFits w64 (x +ℤ pos (m + m / 2))
  raised-fits = omega (zarith, nat_abs_pn x, pn_min x, add_pn x (pos (m + m / 2)))

  raised-natural : N (x +ℤ pos (m + m / 2)) ≡ 0
  raised-natural = omega (zarith, nat_abs_pn x, pn_min x, pn_min (x +ℤ pos (m + m / 2)), add_pn x (pos (m + m / 2)))

  pub raised-low-fits : SFits w64 (rem_z (x +ℤ pos (m + m / 2)) (pos m))
  raised-low-fits =
      let y = x +ℤ pos (m + m / 2) in
      omega (zarith, rem_z_lt m m>0 y, nat_abs_pn (rem_z y (pos m)))

  pub raised-centre : rem_z (x +ℤ pos (m + m / 2)) (pos m) -ℤ pos (m / 2) ≡ centre m x
  unfolding centre
  raised-centre =
      let one : x +ℤ pos (m + m / 2) ≡ (x +ℤ pos (m / 2)) +ℤ pos 1 *ℤ pos m =
      omega (
        zarith,
        add_pn x (pos (m + m / 2)),
        add_pn x (pos (m / 2)),
        add_pn (x +ℤ pos (m / 2)) (pos 1 *ℤ pos m),
        mul_pn (pos 1) (pos m),
        pn_min (x +ℤ pos (m + m / 2)),
        pn_min ((x +ℤ pos (m / 2)) +ℤ pos 1 *ℤ pos m),
      ) in
      ap (λ (t : ℤ). t -ℤ pos (m / 2)) (rem_z_nonneg m m>0 (x +ℤ pos (m + m / 2)) raised-natural ∙ ap pos (emod-eq m m>0 _ _ (pos 1) one))

  -- as 64-bit signed locals hold the steps
  pub raised-held : held (held x +ℤ pos (m + m / 2)) ≡ x +ℤ pos (m + m / 2)
  raised-held = rw (to_z-of_z fits) (to_z-of_z raised-fits)

  pub raised-low-held : held (rem_z (held (held x +ℤ pos (m + m / 2))) (pos m)) -ℤ pos (m / 2) ≡ centre m x
  raised-low-held = rw (raised-held, to_z-of_z raised-low-fits) raised-centre
