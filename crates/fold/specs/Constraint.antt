-- A constraint on the elements of an opening, and how it is laid out on parts of any widths: SPECIFICATION 8.5, "Each is laid out
-- as on the sheet: a, φ, b."
use Rattle.std.specs.Prelude.{cond, List, ◌++◌, ℕ, ◌+◌, ◌-◌, ltb, get_or, ℤ}
use Rattle.integers.specs.Flat.{flat}
use Rattle.algebra.specs.Triangle.{start}
use Rattle.ring.specs.Element.{R, coeffs}
use Rattle.fold.specs.Messages.{elements}

-- a constraint on the opening: a on pairs of parts, one coefficient for each element of the opening, and b
pub record Constraint (d : ℕ) : Type 0 where
  pub a : ℕ → ℕ → (R d).Carrier
  pub table : List (R d).Carrier
  pub constant : (R d).Carrier

module _ (d : ℕ) where
  open R d use {Carrier as Rd, zero as 𝟘}

  -- φ of part s, of w s elements: the table over its chunk; "φ on padding is zero"
  unfoldable pub φ' : (ℕ → ℕ) → List Rd → ℕ → ℕ → Rd
  φ' w table s k = cond (ltb k (w s)) (get_or table (start w s + k) 𝟘) 𝟘

  -- "Each is laid out as on the sheet: a, φ, b.", for r parts of rank n
  unfoldable pub laid_out : (n r : ℕ) → (ℕ → ℕ) → Constraint d → List ℤ
  laid_out n r w x =
      flat r (λ s. elements d (r - s) (λ k. x.a s (s + k)))
      ++ (flat r (λ s. elements d n (φ' w x.table s))
      ++ coeffs d x.constant)
