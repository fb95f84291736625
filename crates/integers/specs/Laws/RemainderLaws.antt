-- Laws of the remainder `emod` and the quotient `ediv` by a positive number m.
use Rattle.std.specs.Prelude.{◌≡◌, ℕ, ◌+◌, ◌-◌, ◌*◌, ◌/◌, ◌%◌, ◌<◌, ℤ, negsuc, neg_ℤ, ◌+ℤ◌, ◌-ℤ◌, ◌*ℤ◌}
use Rattle.std.proofs.Math.Path.{refl, ap}
use Rattle.std.proofs.Common.{sym, ◌∙◌, mul_comm, mod-eq_of_lt}
use Rattle.std.proofs.Math.Nat.{mod-lt, div-add-mod', add-mul-mod_self_right, mul-add-mod_self_right}
use native.Mathlib.Omega.{arith}
use Rattle.std.proofs.Math.IntN.{pos, *ℤ_comm}
use Rattle.integers.specs.Laws.Bridge.{P, N, add_pn, neg_pn, sub_pn, mul_pn, zarith}
use Rattle.integers.specs.Remainder.{emod, ediv}

-- ---- the remainder of a product of naturals

pub mod-mul-left : (a b m : ℕ) → (a * b) % m ≡ (a % m * b) % m
mod-mul-left a b m = rw (← split) (add-mul-mod_self_right (a % m * b) (a / m * b) m)
  where
    split : a % m * b + a / m * b * m ≡ a * b
    split = omega (arith, ap (λ x. x * b) (div-add-mod' a m))

pub mod-mul-right : (a b m : ℕ) → (a * b) % m ≡ (a * (b % m)) % m
mod-mul-right a b m = rw (mul_comm a b, mul_comm a (b % m)) (mod-mul-left b a m)

pub mul-mod : (a b m : ℕ) → (a * b) % m ≡ (a % m * (b % m)) % m
mul-mod a b m = mod-mul-left a b m ∙ mod-mul-right (a % m) b m

-- ---- the remainder and the quotient are the only ones

module _ (m : ℕ) (m>0 : 0 < m) where
  pub emod-lt : (z : ℤ) → emod z m < m
  unfolding emod
  emod-lt (pos n) = mod-lt n m>0
  emod-lt (negsuc n) = omega arith

  pub emod-pos : (n : ℕ) → emod (pos n) m ≡ n % m
  unfolding emod
  emod-pos n = refl

  pub emod-emod : (z : ℤ) → emod (pos (emod z m)) m ≡ emod z m
  emod-emod z = emod-pos (emod z m) ∙ mod-eq_of_lt (emod-lt z)

  -- z ≡ (z div m) m + (z mod m)
  pub division : (z : ℤ) → z ≡ ediv z m *ℤ pos m +ℤ pos (emod z m)
  unfolding emod ediv
  division (pos n) = ap pos (sym (div-add-mod' n m))
  division (negsuc n) =
      omega (
        zarith,
        div-add-mod' n m,
        mod-lt n m>0,
        add_pn (negsuc (n / m) *ℤ pos m) (pos (m - 1 - n % m)),
        mul_pn (negsuc (n / m)) (pos m),
      )

  -- the same in the parts, as omega reads it
  pub division_pn : (z : ℤ) → P z + N (ediv z m) * m ≡ P (ediv z m) * m + (N z + emod z m)
  division_pn z = omega (zarith, division z, add_pn (ediv z m *ℤ pos m) (pos (emod z m)), mul_pn (ediv z m) (pos m))

  same-remainder : (a b : ℕ) {r s : ℕ} → r < m → s < m → a * m + r ≡ b * m + s → r ≡ s
  same-remainder a b {r} {s} h k e =
      sym (mod-eq_of_lt h) ∙ sym (mul-add-mod_self_right a m r) ∙ ap (λ t. t % m) e ∙ mul-add-mod_self_right b m s ∙ mod-eq_of_lt k

  module _ (z k : ℤ) (r : ℕ) (below : r < m) (e : z ≡ k *ℤ pos m +ℤ pos r) where
    same_number : (P k + N (ediv z m)) * m + r ≡ (P (ediv z m) + N k) * m + emod z m
    same_number = omega (zarith, division_pn z, add_pn (k *ℤ pos m) (pos r), mul_pn k (pos m))

    pub emod_unique : r ≡ emod z m
    emod_unique = same-remainder (P k + N (ediv z m)) (P (ediv z m) + N k) below (emod-lt z) same_number

  -- ---- congruence modulo m

  -- a multiple of m changes nothing
  pub emod-shift : (z k : ℤ) → emod (z +ℤ k *ℤ pos m) m ≡ emod z m
  emod-shift z k = sym (emod_unique (z +ℤ k *ℤ pos m) (ediv z m +ℤ k) (emod z m) (emod-lt z)
      (omega (
        zarith,
        division_pn z,
        add_pn z (k *ℤ pos m),
        add_pn ((ediv z m +ℤ k) *ℤ pos m) (pos (emod z m)),
        mul_pn (ediv z m +ℤ k) (pos m),
        mul_pn k (pos m),
        ap (λ t. t * m) (add_pn (ediv z m) k),
      )))

  pub emod-eq : (x y k : ℤ) → x ≡ y +ℤ k *ℤ pos m → emod x m ≡ emod y m
  emod-eq x y k e = ap (λ t. emod t m) e ∙ emod-shift y k

  pub emod-add : (x y : ℤ) → emod (x +ℤ y) m ≡ (emod x m + emod y m) % m
  emod-add x y = emod-eq (x +ℤ y) (pos (emod x m + emod y m)) (ediv x m +ℤ ediv y m)
      (omega (
        zarith,
        division_pn x,
        division_pn y,
        add_pn x y,
        add_pn (pos (emod x m + emod y m)) ((ediv x m +ℤ ediv y m) *ℤ pos m),
        mul_pn (ediv x m +ℤ ediv y m) (pos m),
        ap (λ t. t * m) (add_pn (ediv x m) (ediv y m)),
      ))
      ∙ emod-pos (emod x m + emod y m)

  pub emod-neg : (z : ℤ) → emod (neg_ℤ z) m ≡ (m - emod z m) % m
  emod-neg z = emod-eq (neg_ℤ z) (pos (m - emod z m)) (neg_ℤ (ediv z m) -ℤ pos 1)
      (omega (
        zarith,
        division_pn z,
        emod-lt z,
        neg_pn z,
        neg_pn (ediv z m),
        add_pn (pos (m - emod z m)) ((neg_ℤ (ediv z m) -ℤ pos 1) *ℤ pos m),
        mul_pn (neg_ℤ (ediv z m) -ℤ pos 1) (pos m),
        ap (λ t. t * m) (sub_pn (neg_ℤ (ediv z m)) (pos 1)),
        ap (λ t. t * m) (neg_pn (ediv z m)).0,
        ap (λ t. t * m) (neg_pn (ediv z m)).1,
      ))
      ∙ emod-pos (m - emod z m)

  emod-mul-left : (x y : ℤ) → emod (x *ℤ y) m ≡ emod (pos (emod x m) *ℤ y) m
  emod-mul-left x y = emod-eq (x *ℤ y) (pos (emod x m) *ℤ y) (ediv x m *ℤ y)
      (omega (
        zarith,
        mul_pn x y,
        ap (λ t. t * P y) (division_pn x),
        ap (λ t. t * N y) (division_pn x),
        mul_pn (pos (emod x m)) y,
        add_pn (pos (emod x m) *ℤ y) (ediv x m *ℤ y *ℤ pos m),
        mul_pn (ediv x m *ℤ y) (pos m),
        ap (λ t. t * m) (mul_pn (ediv x m) y),
      ))

  pub emod-mul : (x y : ℤ) → emod (x *ℤ y) m ≡ (emod x m * emod y m) % m
  emod-mul x y = emod-mul-left x y ∙ ap (λ t. emod t m) (*ℤ_comm (pos (emod x m)) y) ∙ emod-mul-left y (pos (emod x m))
      ∙ emod-pos (emod y m * emod x m) ∙ ap (λ t. t % m) (mul_comm (emod y m) (emod x m))

  -- sums and products of congruent numbers are congruent
  pub emod_add_cong : (a b x y : ℤ) → emod a m ≡ emod x m → emod b m ≡ emod y m → emod (a +ℤ b) m ≡ emod (x +ℤ y) m
  emod_add_cong a b x y e f = rw (emod-add a b, emod-add x y, e, f)
