-- The ring laws of ℤ that lib.IntN lacks, and a few identities for moving terms from one side of an equation to the other.
-- `ring_order` sorts sums and products: `simp ring_order` proves an identity that needs no cancellation.
use Rattle.std.specs.Prelude.{◌≡◌, ℕ, ◌*◌, ℤ, pos, neg_ℤ, ◌+ℤ◌, ◌*ℤ◌}
use Rattle.std.proofs.Common.{ap}
use Rattle.std.proofs.Math.IntN.{+ℤ_assoc, +ℤ_comm, *ℤ_comm}
use Rattle.integers.specs.Laws.Bridge.{P, N, add_pn, neg_pn, mul_pn, zarith}

-- ---- products

pub *ℤ_assoc : (x y z : ℤ) → (x *ℤ y) *ℤ z ≡ x *ℤ (y *ℤ z)
*ℤ_assoc x y z = omega (
  zarith,
  mul_pn (x *ℤ y) z,
  mul_pn x (y *ℤ z),
  ap (λ (t : ℕ). t * P z) (mul_pn x y),
  ap (λ (t : ℕ). t * N z) (mul_pn x y),
  ap (λ (t : ℕ). P x * t) (mul_pn y z),
  ap (λ (t : ℕ). N x * t) (mul_pn y z),
)

pub *ℤ_distribˡ : (x y z : ℤ) → x *ℤ (y +ℤ z) ≡ x *ℤ y +ℤ x *ℤ z
*ℤ_distribˡ x y z = omega (
  zarith,
  mul_pn x (y +ℤ z),
  mul_pn x y,
  mul_pn x z,
  add_pn (x *ℤ y) (x *ℤ z),
  ap (λ (t : ℕ). P x * t) (add_pn y z),
  ap (λ (t : ℕ). N x * t) (add_pn y z),
)

pub *ℤ_distribʳ : (x y z : ℤ) → (x +ℤ y) *ℤ z ≡ x *ℤ z +ℤ y *ℤ z
*ℤ_distribʳ x y z = rw (*ℤ_comm (x +ℤ y) z, *ℤ_comm x z, *ℤ_comm y z) (*ℤ_distribˡ z x y)

pub +ℤ_left_comm : (x y z : ℤ) → x +ℤ (y +ℤ z) ≡ y +ℤ (x +ℤ z)
+ℤ_left_comm x y z = omega (zarith, add_pn x (y +ℤ z), add_pn y z, add_pn y (x +ℤ z), add_pn x z)

pub *ℤ_left_comm : (x y z : ℤ) → x *ℤ (y *ℤ z) ≡ y *ℤ (x *ℤ z)
*ℤ_left_comm x y z = rw (← (*ℤ_assoc x y z), *ℤ_comm x y) (*ℤ_assoc y x z)

pub ruleset sum_order = (+ℤ_assoc, +ℤ_comm, +ℤ_left_comm)

pub ruleset ring_order = (sum_order, *ℤ_assoc, *ℤ_comm, *ℤ_left_comm, *ℤ_distribˡ, *ℤ_distribʳ)

-- ---- one and opposites

pub *ℤ_idr : (x : ℤ) → x *ℤ pos 1 ≡ x
*ℤ_idr x = omega (zarith, mul_pn x (pos 1))

pub *ℤ_idl : (x : ℤ) → pos 1 *ℤ x ≡ x
*ℤ_idl x = omega (zarith, mul_pn (pos 1) x)

pub neg_*ℤ : (x y : ℤ) → neg_ℤ x *ℤ y ≡ neg_ℤ (x *ℤ y)
neg_*ℤ x y = omega (zarith, rw ((neg_pn x).0, (neg_pn x).1) at (mul_pn (neg_ℤ x) y), mul_pn x y, neg_pn (x *ℤ y))

-- ---- an example of `ring_order`

square-sum : (x y : ℤ) → (x +ℤ y) *ℤ (x +ℤ y) ≡ x *ℤ x +ℤ (x *ℤ y +ℤ (x *ℤ y +ℤ y *ℤ y))
square-sum x y = simp ring_order
