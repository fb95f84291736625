-- Ring elements and how numbers hold them. SPECIFICATION 2.1, 2.3 and 2.4: "X^d = -1"; "Coefficients lie in lent slices of signed 32-bit numbers,
-- lowest power first"; "A ring element passes by value as sixty-four numbers; those past d are zero".
--     R d           Z_q[X]/(X^d + 1)
--     lift d xs     the element whose coefficients are the first d numbers of xs, each modulo q
--     el d xs p     element p of a flat list with d numbers to an element
--     coeffs u      the d centred coefficients of an element
--     array u       sixty-four numbers: the centred coefficients, then zeros
--     same u v      the test that two elements are equal
use Rattle.std.specs.Prelude.{ℕ, ◌*◌, ◌<◌, ◌≤◌, Bool, List, drop, ℤ, pos, nat_eq, slice_index_or}
use Rattle.integers.specs.Lists.{tab, all}
use Rattle.algebra.specs.CommRing.{CommRing}
use Rattle.algebra.specs.Vec.{build}
use Rattle.algebra.specs.Negacyclic.{Negacyclic}
use Rattle.algebra.specs.Polynomial.{coeff, constant}
use Rattle.residues.specs.Modulus.{Zq, red, cent}

-- a test holds at every k below n
unfoldable pub every : ℕ → (ℕ → Bool) → Bool
every n p = all (λ t. t) (tab n p)

-- the degrees that elements by value have room for
pub record Degree (d : ℕ) : Type 0 where
  pub positive : 0 < d
  pub small : d ≤ 64

abbrev pub R : ℕ → CommRing
R d = Negacyclic Zq d

unfoldable pub lift : (d : ℕ) → List ℤ → (R d).Carrier
lift d xs = build d (λ k. red (slice_index_or xs k (pos 0)))

unfoldable pub el : (d : ℕ) → List ℤ → ℕ → (R d).Carrier
el d xs p = lift d (drop (p * d) xs)

unfoldable pub coeffs : (d : ℕ) → (R d).Carrier → List ℤ
coeffs d u = tab d (λ k. cent (coeff Zq u k))

unfoldable pub array : (d : ℕ) → (R d).Carrier → List ℤ
array d u = tab 64 (λ k. cent (coeff Zq u k))

-- a number modulo q as an element
unfoldable pub number : (d : ℕ) → ℤ → (R d).Carrier
number d c = constant Zq d (red c)

-- two elements are the same: their coefficients are, one by one
unfoldable pub same : (d : ℕ) → (R d).Carrier → (R d).Carrier → Bool
same d u v = every d (λ k. nat_eq (coeff Zq u k).val (coeff Zq v k).val)
