-- Commutative rings. Every ring of this project (ℤ, Z_q, Z_q[X]/(X^d+1)) is a value of this one record.
use Rattle.std.specs.Prelude.{◌≡◌}

pub record CommRing : Type 1 where
  pub Carrier : Type 0
  pub is_set : IsSet Carrier
  pub zero : Carrier
  pub one : Carrier
  pub add : Carrier → Carrier → Carrier
  pub mul : Carrier → Carrier → Carrier
  pub neg : Carrier → Carrier
  pub add_assoc : (a b c : Carrier) → add (add a b) c ≡ add a (add b c)
  pub add_comm : (a b : Carrier) → add a b ≡ add b a
  pub add-zero : (a : Carrier) → add a zero ≡ a
  pub add-neg : (a : Carrier) → add a (neg a) ≡ zero
  pub mul_assoc : (a b c : Carrier) → mul (mul a b) c ≡ mul a (mul b c)
  pub mul_comm : (a b : Carrier) → mul a b ≡ mul b a
  pub mul-one : (a : Carrier) → mul a one ≡ a
  pub mul-add : (a b c : Carrier) → mul a (add b c) ≡ add (mul a b) (mul a c)

module _ (𝓡 : CommRing) where
  infixl 65 ◌⊕◌
  infix 75 ⊖◌
  open 𝓡 use {Carrier, add as ◌⊕◌, neg as ⊖◌}

  unfoldable pub sub : Carrier → Carrier → Carrier
  sub a b = a ⊕ ⊖ b
