-- A solver for equations that hold in every commutative ring. Both sides are quoted as expressions; the check computes the normal
-- form of their difference and sees that it vanishes. Use: `solve3 𝓡 (λ x y z. x :* (y :+ z)) (λ x y z. x :* y :+ x :* z) tt a b c`
-- proves a ⊗ (b ⊕ c) ≡ a ⊗ b ⊕ a ⊗ c; the values a b c may be `_` where the goal shows them.
use Rattle.std.specs.Prelude.{ℕ, zero, suc, ◌≡◌, List, [], ◌∷◌, T}
use Rattle.std.proofs.Common.{sym, ap, ap₂, ◌∙◌}
use Rattle.algebra.specs.CommRing.{CommRing, sub}
use Rattle.algebra.specs.Laws.RingLaws.{neg-zero, sub_zero_iff}
use Rattle.algebra.specs.Laws.NormalForm.{Poly, int, variable, plus, negate, times, vanishes, numeral, value}
use Rattle.algebra.specs.Laws.NormalForm.{value-variable, value-plus, value-negate, value-times, value-vanishes}

infixl 65 ◌:+◌ ◌:-◌
infixl 70 ◌:*◌
-- `num k` is the ring's 𝟘, 𝟙, 𝟙 ⊕ 𝟙, .. for k = 0, 1, 2, ..
pub data Expr : Type 0 where
  var : ℕ → Expr
  num : ℕ → Expr
  ◌:+◌ : Expr → Expr → Expr
  ◌:*◌ : Expr → Expr → Expr
  :neg : Expr → Expr

-- subtraction, read as a ⊕ ⊖ b
abbrev pub ◌:-◌ : Expr → Expr → Expr
a :- b = a :+ :neg b

abbrev pub normal : Expr → Poly
normal (var i) = variable i
normal (num k) = int k 0
normal (a :+ b) = plus (normal a) (normal b)
normal (a :* b) = times (normal a) (normal b)
normal (:neg a) = negate (normal a)

-- the two sides agree in every commutative ring; this computes to Unit or to ⊥
abbrev pub Same : Expr → Expr → Type 0
Same a b = T (vanishes (plus (normal a) (negate (normal b))))

-- a function of n expressions at the variables 0 to n - 1
abbrev pub on1 : (Expr → Expr) → Expr
on1 f = f (var 0)

abbrev pub on2 : (Expr → Expr → Expr) → Expr
on2 f = f (var 0) (var 1)

abbrev pub on3 : (Expr → Expr → Expr → Expr) → Expr
on3 f = f (var 0) (var 1) (var 2)

abbrev pub on4 : (Expr → Expr → Expr → Expr → Expr) → Expr
on4 f = f (var 0) (var 1) (var 2) (var 3)

abbrev pub on8 : (Expr → Expr → Expr → Expr → Expr → Expr → Expr → Expr → Expr) → Expr
on8 f = f (var 0) (var 1) (var 2) (var 3) (var 4) (var 5) (var 6) (var 7)

module _ (𝓡 : CommRing) where
  -- the values of the variables; those past the list are zero
  abbrev pub lookup : List 𝓡.Carrier → ℕ → 𝓡.Carrier
  lookup [] i = 𝓡.zero
  lookup (x ∷ xs) zero = x
  lookup (x ∷ xs) (suc i) = lookup xs i

  -- what an expression says
  abbrev pub reads : Expr → (ℕ → 𝓡.Carrier) → 𝓡.Carrier
  reads (var i) ρ = ρ i
  reads (num k) ρ = numeral 𝓡 k
  reads (a :+ b) ρ = 𝓡.add (reads a ρ) (reads b ρ)
  reads (a :* b) ρ = 𝓡.mul (reads a ρ) (reads b ρ)
  reads (:neg a) ρ = 𝓡.neg (reads a ρ)

  -- two expressions are equal at these values
  abbrev pub Agree : Expr → Expr → List 𝓡.Carrier → Type 0
  Agree a b xs = reads a (lookup xs) ≡ reads b (lookup xs)

  value-normal : (a : Expr) (ρ : ℕ → 𝓡.Carrier) → value 𝓡 (normal a) ρ ≡ reads a ρ
  value-normal (var i) ρ = value-variable 𝓡 i ρ
  value-normal (num k) ρ = rw (neg-zero 𝓡) (𝓡.add-zero (numeral 𝓡 k))
  value-normal (a :+ b) ρ = value-plus 𝓡 (normal a) (normal b) ρ ∙ ap₂ 𝓡.add (value-normal a ρ) (value-normal b ρ)
  value-normal (a :* b) ρ = value-times 𝓡 (normal a) (normal b) ρ ∙ ap₂ 𝓡.mul (value-normal a ρ) (value-normal b ρ)
  value-normal (:neg a) ρ = value-negate 𝓡 (normal a) ρ ∙ ap 𝓡.neg (value-normal a ρ)

  pub solve : (a b : Expr) → Same a b → (ρ : ℕ → 𝓡.Carrier) → reads a ρ ≡ reads b ρ
  unfolding sub
  solve a b t ρ =
      (sub_zero_iff 𝓡 (reads a ρ) (reads b ρ)).0
      (sym (value-normal (a :- b) ρ) ∙ value-vanishes 𝓡 (normal (a :- b)) t ρ)

  -- the same for sides that are functions of n variables
  pub solve1 : (l r : Expr → Expr) → Same (on1 l) (on1 r)
      → (a : 𝓡.Carrier) → Agree (on1 l) (on1 r) (a ∷ [])
  solve1 l r t a = solve (on1 l) (on1 r) t (lookup (a ∷ []))

  pub solve2 : (l r : Expr → Expr → Expr) → Same (on2 l) (on2 r)
      → (a b : 𝓡.Carrier) → Agree (on2 l) (on2 r) (a ∷ b ∷ [])
  solve2 l r t a b = solve (on2 l) (on2 r) t (lookup (a ∷ b ∷ []))

  pub solve3 : (l r : Expr → Expr → Expr → Expr) → Same (on3 l) (on3 r)
      → (a b c : 𝓡.Carrier) → Agree (on3 l) (on3 r) (a ∷ b ∷ c ∷ [])
  solve3 l r t a b c = solve (on3 l) (on3 r) t (lookup (a ∷ b ∷ c ∷ []))

  pub solve4 : (l r : Expr → Expr → Expr → Expr → Expr) → Same (on4 l) (on4 r)
      → (a b c d : 𝓡.Carrier) → Agree (on4 l) (on4 r) (a ∷ b ∷ c ∷ d ∷ [])
  solve4 l r t a b c d = solve (on4 l) (on4 r) t (lookup (a ∷ b ∷ c ∷ d ∷ []))

  pub solve8 : (l r : Expr → Expr → Expr → Expr → Expr → Expr → Expr → Expr → Expr) → Same (on8 l) (on8 r)
      → (a b c d e f g h : 𝓡.Carrier) → Agree (on8 l) (on8 r) (a ∷ b ∷ c ∷ d ∷ e ∷ f ∷ g ∷ h ∷ [])
  solve8 l r t a b c d e f g h = solve (on8 l) (on8 r) t (lookup (a ∷ b ∷ c ∷ d ∷ e ∷ f ∷ g ∷ h ∷ []))
