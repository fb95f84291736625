-- The element X of 𝓚[X]/(X^d + 1).
use Rattle.std.specs.Prelude.{ℕ}
use Rattle.algebra.specs.CommRing.{CommRing}
use Rattle.algebra.specs.Vec.{Vec}
use Rattle.algebra.specs.Polynomial.{constant, times_x}

module _ (𝓚 : CommRing) where
  open 𝓚 use {Carrier as K, one as 𝟙}

  -- the element X
  unfoldable pub indeterminate : (d : ℕ) → Vec K d
  indeterminate d = times_x 𝓚 (constant 𝓚 d 𝟙)
