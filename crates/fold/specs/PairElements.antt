-- The elements by pair i ≤ j as a flat list, row after row.
use Rattle.std.specs.Prelude.{List, ℕ, ◌+◌, ◌-◌, ℤ}
use Rattle.integers.specs.Flat.{flat}
use Rattle.ring.specs.Element.{R}
use Rattle.fold.specs.Messages.{elements}

-- the elements x i j for i ≤ j, by i and then j
unfoldable pub pair_elements : (d r : ℕ) → (ℕ → ℕ → (R d).Carrier) → List ℤ
pair_elements d r x = flat r (λ i. elements d (r - i) (λ k. x i (i + k)))
