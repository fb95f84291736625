-- What passes X^(d-1) comes back at the constant term with its minus, since X^d = -1.
-- The laws that make 𝓚[X]/(X^d + 1) a commutative ring are in ../../specs/Laws/PolynomialLaws.antt and do not rest on it: they hold of X^d = 1 too.
use Rattle.std.specs.Prelude.{◌≡◌, ℕ, ◌-◌, ◌<◌}
use Rattle.algebra.specs.CommRing.{CommRing}
use Rattle.algebra.specs.Vec.{Vec}
use Rattle.algebra.specs.Polynomial.{coeff, times_x}
use Rattle.algebra.specs.Laws.PolynomialLaws.{coeff-shift-zero}

module _ (𝓚 : CommRing) where
  infix 75 ⊖◌
  open 𝓚 use {Carrier as K, neg as ⊖◌}

  pub coeff-times_x-zero : {d : ℕ} (u : Vec K d) → 0 < d → coeff 𝓚 (times_x 𝓚 u) 0 ≡ ⊖ coeff 𝓚 u (d - 1)
  unfolding times_x
  coeff-times_x-zero {d} u h = coeff-shift-zero 𝓚 (⊖ coeff 𝓚 u (d - 1)) u h
