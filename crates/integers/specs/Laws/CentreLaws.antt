-- Laws of the centred remainder `centre m z`: its range, that it is congruent to z, that it is the only such number, and that it is
-- never longer than z.
use Rattle.std.specs.Prelude.{◌≡◌, nat_abs, ◌+ℤ◌, ◌-ℤ◌, ◌*ℤ◌}
use Rattle.std.proofs.Common.{sym, ◌∙◌, arith}
use Rattle.std.proofs.Math.Path.{ap}
use Prim.Native.Nat.{ℕ, ◌-◌, ◌/◌, ◌≤◌, ◌<◌}
use Rattle.std.proofs.Math.Decide.{dec_lt, dec_le}
use Rattle.std.proofs.Math.Nat.{mod-eq_of_lt}
use Rattle.std.proofs.Math.IntN.{ℤ, pos}
use Rattle.integers.specs.Laws.Bridge.{P, N, pn_min, nat_abs_pn, add_pn, sub_pn, mul_pn, zarith}
use Rattle.integers.specs.Remainder.{emod, ediv, centre}
use Rattle.integers.specs.Laws.RemainderLaws.{emod-lt, emod-pos, emod-add, emod-eq, division_pn}

-- the range of a centred remainder: -m ≤ 2c < m, in the parts of c, so that omega reads it
pub record Centred (m : ℕ) (c : ℤ) : Type 0 where
  pub low : N c ≤ m / 2
  pub high : P c < m - m / 2

module _ (m : ℕ) (m>0 : 0 < m) where
  -- ---- the range

  pub centred_abs : {c : ℤ} → Centred m c → nat_abs c ≤ m / 2
  centred_abs {c} r = omega (arith, pn_min c, nat_abs_pn c)

  pub centre_range : (z : ℤ) → Centred m (centre m z)
  unfolding centre
  centre_range z =
      let e : ℕ = emod (z +ℤ pos (m / 2)) m in
      let l : e < m = emod-lt m m>0 (z +ℤ pos (m / 2)) in
      omega (arith, sub_pn (pos e) (pos (m / 2)), pn_min (pos e -ℤ pos (m / 2)))

  pub centre_abs : (z : ℤ) → nat_abs (centre m z) ≤ m / 2
  centre_abs z = centred_abs (centre_range z)

  -- ---- the congruence

  centre_quotient : (z : ℤ) → z -ℤ centre m z ≡ ediv (z +ℤ pos (m / 2)) m *ℤ pos m
  unfolding centre
  centre_quotient z =
      let x : ℤ = z +ℤ pos (m / 2) in
      omega (
        zarith,
        division_pn m m>0 x,
        add_pn z (pos (m / 2)),
        sub_pn (pos (emod x m)) (pos (m / 2)),
        sub_pn z (pos (emod x m) -ℤ pos (m / 2)),
        mul_pn (ediv x m) (pos m),
      )

  pub centre-emod : (z : ℤ) → emod (centre m z) m ≡ emod z m
  centre-emod z =
      let k : ℤ = ediv (z +ℤ pos (m / 2)) m in
      sym (emod-eq m m>0 z (centre m z) k (omega (zarith, centre_quotient z, sub_pn z (centre m z), add_pn (centre m z) (k *ℤ pos m))))

  pub centre-eq : (x y : ℤ) → emod x m ≡ emod y m → centre m x ≡ centre m y
  unfolding centre
  centre-eq x y e = rw (emod-add m m>0 x, emod-add m m>0 y, e)

  -- ---- the only one

  pub centre_fixed : {z : ℤ} → Centred m z → centre m z ≡ z
  unfolding centre
  centre_fixed {z} c =
      let t : ℕ = P (z +ℤ pos (m / 2)) in
      let e : z +ℤ pos (m / 2) ≡ pos t = omega (zarith, c.low, pn_min (z +ℤ pos (m / 2)), add_pn z (pos (m / 2))) in
      let l : t < m = omega (arith, c.high, pn_min (z +ℤ pos (m / 2)), add_pn z (pos (m / 2))) in
      let r : emod (z +ℤ pos (m / 2)) m ≡ t = ap (λ s. emod s m) e ∙ emod-pos m m>0 t ∙ mod-eq_of_lt l in
      rw r (omega (zarith, e, add_pn z (pos (m / 2)), sub_pn (pos t) (pos (m / 2))))

  -- ---- centring only shortens

  pub centre-shorter : (z : ℤ) → nat_abs (centre m z) ≤ nat_abs z
  centre-shorter z = cases (dec_lt (P z) (m - m / 2)) (dec_le (N z) (m / 2))
    where
      cases : Dec (P z < m - m / 2) → Dec (N z ≤ m / 2) → nat_abs (centre m z) ≤ nat_abs z
      cases (yes h) (yes l) = let c : Centred m z = record { low = l; high = h } in rw (centre_fixed c) (omega arith)
      cases (no h) l = omega (arith, centre_abs z, nat_abs_pn z)
      cases (yes h) (no l) = omega (arith, centre_abs z, nat_abs_pn z)
