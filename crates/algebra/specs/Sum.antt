-- Finite sums in a commutative ring: `sum n f` is f 0 + .. + f (n-1), the last summand added last, as a loop that counts up adds it.
use Rattle.std.specs.Prelude.{ℕ, zero, suc}
use Rattle.algebra.specs.CommRing.{CommRing}

module _ (𝓡 : CommRing) where
  open 𝓡 use {Carrier}

  unfoldable pub sum : ℕ → (ℕ → 𝓡.Carrier) → 𝓡.Carrier
  sum zero f = 𝓡.zero
  sum (suc n) f = 𝓡.add (sum n f) (f n)
