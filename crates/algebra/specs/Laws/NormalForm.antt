-- Polynomials with integer coefficients in any number of variables, in the nested form that the solver computes with.
-- They are the normal forms of ring expressions: sums, products and the test for zero are computed, and `value` reads one in a ring.
use Rattle.std.specs.Prelude.{ℕ, zero, suc, ◌+◌, ◌*◌, ◌≡◌, refl, Bool, true, false, ◌&&◌, T, eqb}
use Rattle.std.proofs.Common.{sym, ap, ap₂, ◌∙◌, add-suc, mul-suc, add-zero as nat-add-zero, mul-zero as nat-mul-zero, eqb→eq}
use Rattle.algebra.specs.CommRing.{CommRing}
use Rattle.algebra.specs.Laws.RingLaws.{zero-add, zero-mul, mul-zero, add-mul, mul-neg, neg-mul, neg-neg, neg-zero, neg_distrib}
use Rattle.algebra.specs.Laws.RingLaws.{add_left_comm, mul_left_comm, add_interchange}

infixr 60 ◌▸◌
-- the number p - n; and a + x p, where x is the first variable, p is in all variables and a in those after the first
pub data Poly : Type 0 where
  nil : Poly
  int : ℕ → ℕ → Poly
  ◌▸◌ : Poly → Poly → Poly

abbrev pub variable : ℕ → Poly
variable zero = nil ▸ int 1 0
variable (suc i) = variable i ▸ nil

abbrev pub plus-int : ℕ → ℕ → Poly → Poly
plus-int p n nil = int p n
plus-int p n (int c d) = int (p + c) (n + d)
plus-int p n (a ▸ q) = plus-int p n a ▸ q

abbrev pub plus : Poly → Poly → Poly
plus nil q = q
plus (int p n) q = plus-int p n q
plus (a ▸ p) nil = a ▸ p
plus (a ▸ p) (int c d) = plus-int c d a ▸ p
plus (a ▸ p) (b ▸ q) = plus a b ▸ plus p q

abbrev pub negate : Poly → Poly
negate nil = nil
negate (int p n) = int n p
negate (a ▸ p) = negate a ▸ negate p

abbrev pub times-int : ℕ → ℕ → Poly → Poly
times-int p n nil = nil
times-int p n (int c d) = int (p * c + n * d) (p * d + n * c)
times-int p n (a ▸ q) = times-int p n a ▸ times-int p n q

-- f at each coefficient of the first variable's powers
abbrev pub coefficients : (Poly → Poly) → Poly → Poly
coefficients f nil = nil
coefficients f (int c d) = f (int c d) ▸ nil
coefficients f (b ▸ q) = f b ▸ coefficients f q

abbrev pub times : Poly → Poly → Poly
times nil q = nil
times (int p n) q = times-int p n q
times (a ▸ p) q = plus (coefficients (λ b. times a b) q) (nil ▸ times p q)

-- every coefficient is zero
abbrev pub vanishes : Poly → Bool
vanishes nil = true
vanishes (int p n) = eqb p n
vanishes (a ▸ p) = vanishes a && vanishes p

and_left : (b c : Bool) → T (b && c) → T b
and_left true c t = tt
and_left false c t = t

and_right : (b c : Bool) → T (b && c) → T c
and_right true c t = t
and_right false c t = absurd t

module _ (𝓡 : CommRing) where
  infixl 65 ◌⊕◌
  infixl 70 ◌⊗◌
  infix 75 ⊖◌
  open 𝓡 use {Carrier, zero as 𝟘, one as 𝟙, add as ◌⊕◌, mul as ◌⊗◌, neg as ⊖◌}
  open 𝓡 use {add_assoc, add_comm, add-zero, add-neg, mul_assoc, mul_comm, mul-one, mul-add}

  -- a numeral in the ring: 𝟘, 𝟙, 𝟙 ⊕ 𝟙, 𝟙 ⊕ 𝟙 ⊕ 𝟙, ..
  abbrev pub numeral : ℕ → Carrier
  numeral zero = 𝟘
  numeral (suc zero) = 𝟙
  numeral (suc (suc n)) = numeral (suc n) ⊕ 𝟙

  numeral-suc : (n : ℕ) → numeral (suc n) ≡ numeral n ⊕ 𝟙
  numeral-suc zero = sym (zero-add 𝓡 𝟙)
  numeral-suc (suc n) = refl

  numeral-add : (m n : ℕ) → numeral (m + n) ≡ numeral m ⊕ numeral n
  numeral-add m zero = rw nat-add-zero (sym (add-zero (numeral m)))
  numeral-add m (suc n) =
      ap numeral (add-suc m n)
      ∙ numeral-suc (m + n)
      ∙ ap (λ x. x ⊕ 𝟙) (numeral-add m n)
      ∙ add_assoc (numeral m) (numeral n) 𝟙
      ∙ ap (λ x. numeral m ⊕ x) (sym (numeral-suc n))

  numeral-mul : (m n : ℕ) → numeral (m * n) ≡ numeral m ⊗ numeral n
  numeral-mul m zero = rw nat-mul-zero (sym (mul-zero 𝓡 (numeral m)))
  numeral-mul m (suc n) =
      ap numeral (mul-suc m n)
      ∙ numeral-add (m * n) m
      ∙ ap₂ ◌⊕◌ (numeral-mul m n) (sym (mul-one (numeral m)))
      ∙ sym (mul-add (numeral m) (numeral n) 𝟙)
      ∙ ap (λ x. numeral m ⊗ x) (sym (numeral-suc n))

  -- a polynomial where the variables have the values ρ 0, ρ 1, ..
  abbrev pub value : Poly → (ℕ → Carrier) → Carrier
  value nil ρ = 𝟘
  value (int p n) ρ = numeral p ⊕ ⊖ numeral n
  value (a ▸ p) ρ = value a (λ i. ρ (suc i)) ⊕ ρ 0 ⊗ value p ρ

  pub value-variable : (i : ℕ) (ρ : ℕ → Carrier) → value (variable i) ρ ≡ ρ i
  value-variable zero ρ = simp (zero-add 𝓡, neg-zero 𝓡, add-zero, mul-one)
  value-variable (suc i) ρ = rw (value-variable i (λ k. ρ (suc k)), mul-zero 𝓡 (ρ 0)) (add-zero (ρ (suc i)))

  value-plus-int : (p n : ℕ) (q : Poly) (ρ : ℕ → Carrier) → value (plus-int p n q) ρ ≡ numeral p ⊕ ⊖ numeral n ⊕ value q ρ
  value-plus-int p n nil ρ = sym (add-zero (numeral p ⊕ ⊖ numeral n))
  value-plus-int p n (int c d) ρ =
      rw (numeral-add p c, numeral-add n d, neg_distrib 𝓡 (numeral n) (numeral d))
      (add_interchange 𝓡 (numeral p) (numeral c) (⊖ numeral n) (⊖ numeral d))
  value-plus-int p n (a ▸ q) ρ =
      rw (value-plus-int p n a (λ i. ρ (suc i)))
      (add_assoc (numeral p ⊕ ⊖ numeral n) (value a (λ i. ρ (suc i))) (ρ 0 ⊗ value q ρ))

  pub value-plus : (p q : Poly) (ρ : ℕ → Carrier) → value (plus p q) ρ ≡ value p ρ ⊕ value q ρ
  value-plus nil q ρ = sym (zero-add 𝓡 (value q ρ))
  value-plus (int p n) q ρ = value-plus-int p n q ρ
  value-plus (a ▸ p) nil ρ = sym (add-zero (value (a ▸ p) ρ))
  value-plus (a ▸ p) (int c d) ρ =
      rw (value-plus-int c d a (λ i. ρ (suc i)))
      (swapped (numeral c ⊕ ⊖ numeral d) (value a (λ i. ρ (suc i))) (ρ 0 ⊗ value p ρ))
    where
      swapped : (x y z : Carrier) → x ⊕ y ⊕ z ≡ y ⊕ z ⊕ x
      swapped x y z = simp (add_assoc, add_comm, add_left_comm 𝓡)
  value-plus (a ▸ p) (b ▸ q) ρ =
      rw (value-plus a b (λ i. ρ (suc i)), value-plus p q ρ, mul-add (ρ 0) (value p ρ) (value q ρ))
      (add_interchange 𝓡 (value a (λ i. ρ (suc i))) (value b (λ i. ρ (suc i))) (ρ 0 ⊗ value p ρ) (ρ 0 ⊗ value q ρ))

  pub value-negate : (p : Poly) (ρ : ℕ → Carrier) → value (negate p) ρ ≡ ⊖ value p ρ
  value-negate nil ρ = sym (neg-zero 𝓡)
  value-negate (int p n) ρ = rw (neg_distrib 𝓡 (numeral p) (⊖ numeral n), neg-neg 𝓡 (numeral n)) (add_comm (numeral n) (⊖ numeral p))
  value-negate (a ▸ p) ρ =
      rw (value-negate a (λ i. ρ (suc i)), value-negate p ρ, mul-neg 𝓡 (ρ 0) (value p ρ))
      (sym (neg_distrib 𝓡 (value a (λ i. ρ (suc i))) (ρ 0 ⊗ value p ρ)))

  -- a factor into each summand of a + x q
  through : (c a x q : Carrier) → c ⊗ a ⊕ x ⊗ (c ⊗ q) ≡ c ⊗ (a ⊕ x ⊗ q)
  through c a x q = rw (mul_left_comm 𝓡 x c q) (sym (mul-add c a (x ⊗ q)))

  value-times-int : (p n : ℕ) (q : Poly) (ρ : ℕ → Carrier) → value (times-int p n q) ρ ≡ (numeral p ⊕ ⊖ numeral n) ⊗ value q ρ
  value-times-int p n nil ρ = sym (mul-zero 𝓡 (numeral p ⊕ ⊖ numeral n))
  value-times-int p n (int c d) ρ =
      simp (numeral-add, numeral-mul) (expand (numeral p) (numeral n) (numeral c) (numeral d))
    where
      expand : (x y u v : Carrier) → x ⊗ u ⊕ y ⊗ v ⊕ ⊖ (x ⊗ v ⊕ y ⊗ u) ≡ (x ⊕ ⊖ y) ⊗ (u ⊕ ⊖ v)
      expand x y u v =
          simp (add-mul 𝓡, mul-add, neg_distrib 𝓡, mul-neg 𝓡, neg-mul 𝓡, neg-neg 𝓡, add_assoc, add_comm, add_left_comm 𝓡)
  value-times-int p n (a ▸ q) ρ =
      rw (value-times-int p n a (λ i. ρ (suc i)), value-times-int p n q ρ)
      (through (numeral p ⊕ ⊖ numeral n) (value a (λ i. ρ (suc i))) (ρ 0) (value q ρ))

  -- if f multiplies by c, so does f at every coefficient
  value-coefficients : (f : Poly → Poly) (c : Carrier) (q : Poly) (ρ : ℕ → Carrier)
      → ((b : Poly) → value (f b) (λ i. ρ (suc i)) ≡ c ⊗ value b (λ i. ρ (suc i)))
      → value (coefficients f q) ρ ≡ c ⊗ value q ρ
  value-coefficients f c nil ρ h = sym (mul-zero 𝓡 c)
  value-coefficients f c (int p n) ρ h =
      ap₂ ◌⊕◌ (h (int p n)) (mul-zero 𝓡 (ρ 0)) ∙ add-zero (c ⊗ (numeral p ⊕ ⊖ numeral n))
  value-coefficients f c (b ▸ q) ρ h =
      rw (h b, value-coefficients f c q ρ h) (through c (value b (λ i. ρ (suc i))) (ρ 0) (value q ρ))

  pub value-times : (p q : Poly) (ρ : ℕ → Carrier) → value (times p q) ρ ≡ value p ρ ⊗ value q ρ
  value-times nil q ρ = sym (zero-mul 𝓡 (value q ρ))
  value-times (int p n) q ρ = value-times-int p n q ρ
  value-times (a ▸ p) q ρ =
      value-plus (coefficients (λ b. times a b) q) (nil ▸ times p q) ρ
      ∙ ap₂ ◌⊕◌ (value-coefficients (λ b. times a b) (value a (λ i. ρ (suc i))) q ρ (λ b. value-times a b (λ i. ρ (suc i))))
      (zero-add 𝓡 (ρ 0 ⊗ value (times p q) ρ) ∙ ap (λ x. ρ 0 ⊗ x) (value-times p q ρ))
      ∙ collect (value a (λ i. ρ (suc i))) (ρ 0) (value p ρ) (value q ρ)
    where
      collect : (a x p q : Carrier) → a ⊗ q ⊕ x ⊗ (p ⊗ q) ≡ (a ⊕ x ⊗ p) ⊗ q
      collect a x p q = rw (← mul_assoc x p q) (sym (add-mul 𝓡 a (x ⊗ p) q))

  pub value-vanishes : (p : Poly) → T (vanishes p) → (ρ : ℕ → Carrier) → value p ρ ≡ 𝟘
  value-vanishes nil t ρ = refl
  value-vanishes (int p n) t ρ = rw (eqb→eq p n t) (add-neg (numeral n))
  value-vanishes (a ▸ p) t ρ =
      ap₂ (λ x y. x ⊕ ρ 0 ⊗ y)
      (value-vanishes a (and_left (vanishes a) (vanishes p) t) (λ i. ρ (suc i)))
      (value-vanishes p (and_right (vanishes a) (vanishes p) t) ρ)
      ∙ zero-add 𝓡 (ρ 0 ⊗ 𝟘)
      ∙ mul-zero 𝓡 (ρ 0)
