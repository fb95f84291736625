-- The laws that follow from the fields of a commutative ring, for every ring.
use Rattle.std.specs.Prelude.{◌≡◌, ◌↔◌}
use Rattle.std.proofs.Common.{sym, ap, ◌∙◌}
use Rattle.algebra.specs.CommRing.{CommRing, sub}

module _ (𝓡 : CommRing) where
  infixl 65 ◌⊕◌
  infixl 70 ◌⊗◌
  infix 75 ⊖◌
  open 𝓡 use {Carrier, zero as 𝟘, one as 𝟙, add as ◌⊕◌, mul as ◌⊗◌, neg as ⊖◌}
  open 𝓡 use {add_assoc, add_comm, add-zero, add-neg, mul_assoc, mul_comm, mul-one, mul-add}

  pub zero-add : (a : Carrier) → 𝟘 ⊕ a ≡ a
  zero-add a = add_comm 𝟘 a ∙ add-zero a

  pub neg-add : (a : Carrier) → ⊖ a ⊕ a ≡ 𝟘
  neg-add a = add_comm (⊖ a) a ∙ add-neg a

  pub one-mul : (a : Carrier) → 𝟙 ⊗ a ≡ a
  one-mul a = mul_comm 𝟙 a ∙ mul-one a

  pub add-mul : (a b c : Carrier) → (a ⊕ b) ⊗ c ≡ a ⊗ c ⊕ b ⊗ c
  add-mul a b c = rw (mul_comm (a ⊕ b) c, mul_comm a c, mul_comm b c) (mul-add c a b)

  pub add_left_comm : (a b c : Carrier) → a ⊕ (b ⊕ c) ≡ b ⊕ (a ⊕ c)
  add_left_comm a b c = rw (← add_assoc a b c, add_comm a b) (add_assoc b a c)

  -- two sums added, first with first and second with second
  pub add_interchange : (a b c d : Carrier) → a ⊕ b ⊕ (c ⊕ d) ≡ a ⊕ c ⊕ (b ⊕ d)
  add_interchange a b c d = rw (add_assoc a b (c ⊕ d), add_left_comm b c d, ← add_assoc a c (b ⊕ d))

  pub mul_left_comm : (a b c : Carrier) → a ⊗ (b ⊗ c) ≡ b ⊗ (a ⊗ c)
  mul_left_comm a b c = rw (← mul_assoc a b c, mul_comm a b) (mul_assoc b a c)

  pub add_cancel : (a b c : Carrier) → a ⊕ c ≡ b ⊕ c → a ≡ b
  add_cancel a b c e = sym (undo a) ∙ ap (λ x. x ⊕ ⊖ c) e ∙ undo b
    where
      undo : (x : Carrier) → x ⊕ c ⊕ ⊖ c ≡ x
      undo x = rw (add_assoc x c (⊖ c), add-neg c) (add-zero x)

  -- the inverse is unique
  pub neg_unique : (a b : Carrier) → a ⊕ b ≡ 𝟘 → a ≡ ⊖ b
  neg_unique a b e = add_cancel a (⊖ b) b (e ∙ sym (neg-add b))

  pub neg-neg : (a : Carrier) → ⊖ ⊖ a ≡ a
  neg-neg a = sym (neg_unique a (⊖ a) (add-neg a))

  pub neg-zero : ⊖ 𝟘 ≡ 𝟘
  neg-zero = sym (neg_unique 𝟘 𝟘 (add-zero 𝟘))

  pub neg_distrib : (a b : Carrier) → ⊖ (a ⊕ b) ≡ ⊖ a ⊕ ⊖ b
  neg_distrib a b = sym (neg_unique (⊖ a ⊕ ⊖ b) (a ⊕ b) cancels)
    where
      cancels : ⊖ a ⊕ ⊖ b ⊕ (a ⊕ b) ≡ 𝟘
      cancels = rw (add_comm a b, add_assoc (⊖ a) (⊖ b) (b ⊕ a), ← add_assoc (⊖ b) b a, neg-add b, zero-add a) (neg-add a)

  pub mul-zero : (a : Carrier) → a ⊗ 𝟘 ≡ 𝟘
  mul-zero a = add_cancel (a ⊗ 𝟘) 𝟘 (a ⊗ 𝟘) (sym (mul-add a 𝟘 𝟘) ∙ ap (λ x. a ⊗ x) (add-zero 𝟘) ∙ sym (zero-add (a ⊗ 𝟘)))

  pub zero-mul : (a : Carrier) → 𝟘 ⊗ a ≡ 𝟘
  zero-mul a = mul_comm 𝟘 a ∙ mul-zero a

  pub mul-neg : (a b : Carrier) → a ⊗ ⊖ b ≡ ⊖ (a ⊗ b)
  mul-neg a b = neg_unique (a ⊗ ⊖ b) (a ⊗ b) (rw (← mul-add a (⊖ b) b, neg-add b) (mul-zero a))

  pub neg-mul : (a b : Carrier) → ⊖ a ⊗ b ≡ ⊖ (a ⊗ b)
  neg-mul a b = rw (mul_comm (⊖ a) b, mul_comm a b) (mul-neg b a)

  pub sub_zero_iff : (a b : Carrier) → (sub 𝓡 a b ≡ 𝟘) ↔ (a ≡ b)
  unfolding sub
  sub_zero_iff a b = (λ e. neg_unique a (⊖ b) e ∙ neg-neg b, λ e. rw e (add-neg b))
