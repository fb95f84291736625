-- The conjugation of 𝓚[X]/(X^d + 1), which sends X to its inverse -X^(d-1), and the constant term `ct`.
-- The constant term of σ(u) · v is the inner product of the coefficients of u and v.
use Rattle.std.specs.Prelude.{ℕ, zero, suc, ◌-◌}
use Rattle.algebra.specs.CommRing.{CommRing}
use Rattle.algebra.specs.Vec.{Vec, build}
use Rattle.algebra.specs.Polynomial.{coeff}

module _ (𝓚 : CommRing) where
  infix 75 ⊖◌
  open 𝓚 use {Carrier as K, neg as ⊖◌}

  -- the coefficients of σ(u): u_0, and -u_(d-k) for X^k
  unfoldable pub reflected : {d : ℕ} → Vec K d → ℕ → K
  reflected u zero = coeff 𝓚 u 0
  reflected {d} u (suc k) = ⊖ coeff 𝓚 u (d - suc k)

  -- σ
  unfoldable pub conjugate : {d : ℕ} → Vec K d → Vec K d
  conjugate {d} u = build d (reflected u)

  -- the constant term
  abbrev pub ct : {d : ℕ} → Vec K d → K
  ct u = coeff 𝓚 u 0
