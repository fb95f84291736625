-- The machine's division by a positive number, `quot_z` and `rem_z`, which go toward zero, against `ediv`, `emod` and `centre`.
use Rattle.std.specs.Prelude.{◌≡◌, ℕ, zero, suc, ◌*◌, ◌/◌, ◌%◌, ◌<◌, negsuc, neg_ℤ, nat_abs, ◌+ℤ◌, ◌-ℤ◌, ◌*ℤ◌}
use Rattle.std.proofs.Math.Path.{refl, ap}
use Rattle.std.proofs.Common.{sym, ◌∙◌, div-add-mod', mod-lt, mul-div_cancel}
use Rattle.std.proofs.Math.Nat.{zero-div}
use native.Mathlib.Omega.{arith}
use Rattle.std.proofs.Math.IntN.{ℤ, pos}
use Rattle.std.specs.Int.Signed.{quot_z, rem_z}
use Rattle.integers.specs.Laws.Bridge.{N, pn_min, nat_abs_pn, add_pn, neg_pn, sub_pn, mul_pn, zarith}
use Rattle.integers.specs.Remainder.{emod, centre}
use Rattle.integers.specs.Laws.RemainderLaws.{emod-eq}

pub quot_z_rem_z : (m : ℕ) (x : ℤ) → x ≡ quot_z x (pos m) *ℤ pos m +ℤ rem_z x (pos m)
quot_z_rem_z m (pos a) = ap pos (sym (div-add-mod' a m))
quot_z_rem_z m (negsuc a) =
    let q : ℕ = suc a / m in
    let r : ℕ = suc a % m in
    omega (
      zarith,
      div-add-mod' (suc a) m,
      add_pn (neg_ℤ (pos q) *ℤ pos m) (neg_ℤ (pos r)),
      mul_pn (neg_ℤ (pos q)) (pos m),
      ap (λ t. t * m) (neg_pn (pos q)).0,
      ap (λ t. t * m) (neg_pn (pos q)).1,
      neg_pn (pos r),
    )

module _ (m : ℕ) (m>0 : 0 < m) where
  pub rem_z_lt : (x : ℤ) → nat_abs (rem_z x (pos m)) < m
  rem_z_lt (pos a) = mod-lt a m>0
  rem_z_lt (negsuc a) = omega (arith, nat_abs_pn (neg_ℤ (pos (suc a % m))), neg_pn (pos (suc a % m)), mod-lt (suc a) m>0)

  -- of a number that is not negative
  pub rem_z_nonneg : (x : ℤ) → N x ≡ 0 → rem_z x (pos m) ≡ pos (emod x m)
  unfolding emod
  rem_z_nonneg (pos a) h = refl
  rem_z_nonneg (negsuc a) h = let f : ⊥ = omega arith in absurd f

  -- ---- exact division

  quot_z_neg : (n : ℕ) → quot_z (neg_ℤ (pos n)) (pos m) ≡ neg_ℤ (pos (n / m))
  quot_z_neg zero = rw zero-div
  quot_z_neg (suc n) = refl

  pub quot_z_exact : (k : ℤ) → quot_z (k *ℤ pos m) (pos m) ≡ k
  quot_z_exact (pos k) = ap pos (mul-div_cancel k m>0)
  quot_z_exact (negsuc k) = quot_z_neg (suc k * m) ∙ ap (λ t. neg_ℤ (pos t)) (mul-div_cancel (suc k) m>0)

  -- the centred remainder without a branch
  pub centre_rem_z : (x : ℤ) → rem_z (rem_z x (pos m) +ℤ pos m +ℤ pos (m / 2)) (pos m) -ℤ pos (m / 2) ≡ centre m x
  unfolding centre
  centre_rem_z x =
      let q : ℤ = quot_z x (pos m) in
      let r : ℤ = rem_z x (pos m) in
      let y : ℤ = r +ℤ pos m +ℤ pos (m / 2) in
      let k : ℤ = pos 1 -ℤ q in
      let s = add_pn (r +ℤ pos m) (pos (m / 2)) in
      let n : N y ≡ 0 = omega (arith, rem_z_lt x, nat_abs_pn r, add_pn r (pos m), pn_min y, pn_min (r +ℤ pos m)) in
      let d : y ≡ x +ℤ pos (m / 2) +ℤ k *ℤ pos m = omega (
        zarith,
        quot_z_rem_z m x,
        add_pn (q *ℤ pos m) r,
        mul_pn q (pos m),
        add_pn r (pos m),
        add_pn x (pos (m / 2)),
        add_pn (x +ℤ pos (m / 2)) (k *ℤ pos m),
        mul_pn k (pos m),
        ap (λ t. t * m) (sub_pn (pos 1) q),
      ) in
      ap (λ t. t -ℤ pos (m / 2)) (rem_z_nonneg y n ∙ ap pos (emod-eq m m>0 y (x +ℤ pos (m / 2)) k d))
