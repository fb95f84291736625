-- SPECIFICATION 2.1 and 2.2: "q = 4294967197 = 2^32 - 99"; "Coefficients are centred: -2147483598 to 2147483598".
--     Zq            the integers modulo q
--     red z         the residue of an integer
--     cent x        the centred number of a residue
--     centred z     the centred number congruent to z
use Rattle.std.specs.Prelude.{ℕ, T, ltb, ℤ}
use Rattle.integers.specs.Remainder.{centre}
use Rattle.algebra.specs.CommRing.{CommRing}
use Rattle.algebra.specs.Residue as Residue
use Rattle.algebra.specs.IntegersModulo.{Zmod}

unfoldable pub q : ℕ
q = 4294967197

pub q-positive : T (ltb 0 q)
unfolding q
q-positive = tt

abbrev pub Zq : CommRing
Zq = Zmod q q-positive

unfoldable pub red : ℤ → Zq.Carrier
red z = Residue.reduce q q-positive z

unfoldable pub cent : Zq.Carrier → ℤ
cent x = Residue.centred x

unfoldable pub centred : ℤ → ℤ
centred z = centre q z
