-- The garbage h and its commitment as the loops of message 4 form them: all products <φ_i, s_j> first, then half of the sum of two of them.
--     cross, part_product     the products <φ_i, s_j>, and the same where a list holds φ_i
--     square_elements         the list of these products
--     halved                 h_ij from the products that a list holds
use Rattle.std.specs.Prelude.{List, ℕ, ◌+◌, ◌*◌, ℤ}
use Rattle.integers.specs.Flat.{flat}
use Rattle.algebra.specs.DotProduct.{inner}
use Rattle.ring.specs.Element.{R, el}
use Rattle.fold.specs.Statement.{part}
use Rattle.fold.specs.Messages.{elements, half}

unfoldable pub cross : (d n : ℕ) → (ℕ → ℕ → (R d).Carrier) → List ℤ → ℕ → ℕ → (R d).Carrier
cross d n φ s i j = inner (R d) n (φ i) (part d n s j)

unfoldable pub part_product : (d n : ℕ) → List ℤ → List ℤ → ℕ → (R d).Carrier
part_product d n phi s j = inner (R d) n (el d phi) (part d n s j)

-- the elements x i j for all i and j below r, by i and then j
unfoldable pub square_elements : (d r : ℕ) → (ℕ → ℕ → (R d).Carrier) → List ℤ
square_elements d r x = flat r (λ i. elements d r (x i))

unfoldable pub halved : (d r : ℕ) → List ℤ → ℕ → ℕ → (R d).Carrier
halved d r M i j = (R d).mul (half d) ((R d).add (el d M (i * r + j)) (el d M (j * r + i)))
