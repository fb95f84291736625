-- SPECIFICATION 14.4 to 14.6, for any witness s: what each call of the bare level writes. Turns are counted from 0 here: turn i has i challenges before it.
use Rattle.std.specs.Prelude.{List, ◌++◌, ℕ, zero, suc, ℤ}
use Rattle.integers.specs.Flat.{flat}
use Rattle.algebra.specs.Sum.{sum}
use Rattle.algebra.specs.DotProduct.{inner}
use Rattle.ring.specs.Element.{R, el}
use Rattle.fold.specs.Statement.{part}
use Rattle.fold.specs.Messages.{elements, t, g}

-- "t_i = A s_i .. by part, then row"
unfoldable pub bare_t : (d n r κ : ℕ) (A s : List ℤ) → List ℤ
bare_t d n r κ A s = flat r (λ i. elements d κ (t d n A s i))

-- "φ_1..φ_r of the aggregate, n elements each, .. by part"; `part d n phi` reads them
unfoldable pub bare_phi : (d n r : ℕ) (φ : ℕ → ℕ → (R d).Carrier) → List ℤ
bare_phi d n r φ = flat r (λ i. elements d n (φ i))

-- "It is four elements"
abbrev pub four : ℕ
four = 4

module _ (d n : ℕ) (φ : ℕ → ℕ → (R d).Carrier) (c s : List ℤ) (i : ℕ) where
  -- "the sum over j < i of (<φ_j,s_i> + <φ_i,s_j>)c_j"
  unfoldable pub mixedΦ : (R d).Carrier
  mixedΦ = sum (R d) i (λ j. (R d).mul ((R d).add (inner (R d) n (φ j) (part d n s i)) (inner (R d) n (φ i) (part d n s j))) (el d c j))

  -- "<φ_i,s_i>"
  unfoldable pub ownΦ : (R d).Carrier
  ownΦ = inner (R d) n (φ i) (part d n s i)

  -- "the sum over j < i of <s_i,s_j>c_j"
  unfoldable pub earlier_z : (R d).Carrier
  earlier_z = sum (R d) i (λ j. (R d).mul (g d n s i j) (el d c j))

  -- "2·(the sum over j < i of <s_i,s_j>c_j)"
  unfoldable pub mixed_z : (R d).Carrier
  mixed_z = (R d).add earlier_z earlier_z

  -- "<s_i,s_i>"
  unfoldable pub own_z : (R d).Carrier
  own_z = g d n s i i

  -- "the mixed φ, the own φ, the mixed z and the own z of turn i"
  unfoldable pub turn_element : ℕ → (R d).Carrier
  turn_element zero = mixedΦ
  turn_element (suc zero) = ownΦ
  turn_element (suc (suc zero)) = mixed_z
  turn_element (suc (suc (suc e))) = own_z

  unfoldable pub turn : List ℤ
  turn = elements d four turn_element

-- "The bare opening is t, z, then these four by turn"
unfoldable pub bare_opening : (ts zs turns : List ℤ) → List ℤ
bare_opening ts zs turns = ts ++ (zs ++ turns)
