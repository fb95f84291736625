-- The operations of 𝓚[X]/(X^d + 1) over any commutative ring 𝓚, for any d. An element is the vector of its d coefficients, lowest power first.
use Rattle.std.specs.Prelude.{ℕ, zero, suc, ◌-◌}
use Rattle.algebra.specs.CommRing.{CommRing}
use Rattle.algebra.specs.Vec.{Vec, nil, cons, at, map, zip_with}

module _ (𝓚 : CommRing) where
  infixl 65 ◌⊕◌
  infixl 70 ◌⊗◌
  infix 75 ⊖◌
  open 𝓚 use {Carrier as K, zero as 𝟘, add as ◌⊕◌, mul as ◌⊗◌, neg as ⊖◌}

  -- the coefficient of X^k
  abbrev pub coeff : {d : ℕ} → Vec K d → ℕ → K
  coeff u k = at 𝟘 u k

  unfoldable pub zeros : (d : ℕ) → Vec K d
  zeros zero = nil
  zeros (suc n) = cons 𝟘 (zeros n)

  -- c as an element: c, 0, .., 0
  unfoldable pub constant : (d : ℕ) → K → Vec K d
  constant zero c = nil
  constant (suc n) c = cons c (zeros n)

  unfoldable pub plus : {d : ℕ} → Vec K d → Vec K d → Vec K d
  plus u v = zip_with ◌⊕◌ u v

  unfoldable pub negate : {d : ℕ} → Vec K d → Vec K d
  negate u = map ⊖◌ u

  -- c · u, for a number c
  unfoldable pub scale : {d : ℕ} → K → Vec K d → Vec K d
  scale c u = map (◌⊗◌ c) u

  -- a, u_0, .., u_(d-2): each coefficient moves up by one power, and the last one is dropped
  unfoldable pub shift : {d : ℕ} → K → Vec K d → Vec K d
  shift a nil = nil
  shift a (cons b u) = cons a (shift b u)

  -- X · u: the last coefficient comes back negated in front, since X^d = -1
  unfoldable pub times_x : {d : ℕ} → Vec K d → Vec K d
  times_x {d} u = shift (⊖ coeff u (d - 1)) u

  -- the product by Horner's rule: (a + X · u) · v = a · v + X · (u · v), for a polynomial of any length on the left
  unfoldable pub times : {n d : ℕ} → Vec K n → Vec K d → Vec K d
  times {d = d} nil v = zeros d
  times (cons a u) v = plus (scale a v) (times_x (times u v))
