-- The solver at work: how the two sides are quoted, and what it proves.
use Rattle.std.specs.Prelude.{ℕ, ◌≡◌}
use Rattle.algebra.specs.CommRing.{CommRing}
use Rattle.algebra.specs.Laws.Solver.{num, ◌:+◌, ◌:*◌, ◌:-◌, solve1, solve2, solve3, solve4, solve8}

module _ (𝓡 : CommRing) where
  infixl 65 ◌⊕◌
  infixl 70 ◌⊗◌
  infix 75 ⊖◌
  open 𝓡 use {Carrier, zero as 𝟘, one as 𝟙, add as ◌⊕◌, mul as ◌⊗◌, neg as ⊖◌}

  square_of_sum : (a b : Carrier) → (a ⊕ b) ⊗ (a ⊕ b) ≡ a ⊗ a ⊕ (𝟙 ⊕ 𝟙) ⊗ (a ⊗ b) ⊕ b ⊗ b
  square_of_sum = solve2 𝓡 (λ x y. (x :+ y) :* (x :+ y)) (λ x y. x :* x :+ num 2 :* (x :* y) :+ y :* y) tt

  -- two openings of one commitment under challenges c and c'
  difference_of_challenges : (c c' t u : Carrier) → (c ⊕ ⊖ c') ⊗ t ⊕ c' ⊗ (t ⊕ ⊖ u) ≡ c ⊗ t ⊕ ⊖ (c' ⊗ u)
  difference_of_challenges =
      solve4 𝓡 (λ c d t u. (c :- d) :* t :+ d :* (t :- u)) (λ c d t u. c :* t :- d :* u) tt

  -- the values are read off the goal
  values-found : (f : ℕ → Carrier) (a : Carrier) → f 0 ⊗ (f 1 ⊕ a) ⊕ ⊖ (a ⊗ f 0) ≡ f 1 ⊗ f 0
  values-found f a = solve3 𝓡 (λ x y z. x :* (y :+ z) :- z :* x) (λ x y z. y :* x) tt _ _ _

  constants : (a : Carrier) → a ⊗ 𝟘 ⊕ 𝟙 ⊗ a ≡ a ⊕ ⊖ 𝟘
  constants = solve1 𝓡 (λ x. x :* num 0 :+ num 1 :* x) (λ x. x :- num 0) tt

  difference_of_cubes : (a b : Carrier) → (a ⊕ ⊖ b) ⊗ (a ⊗ a ⊕ a ⊗ b ⊕ b ⊗ b) ≡ a ⊗ a ⊗ a ⊕ ⊖ (b ⊗ b ⊗ b)
  difference_of_cubes =
      solve2 𝓡 (λ x y. (x :- y) :* (x :* x :+ x :* y :+ y :* y)) (λ x y. x :* x :* x :- y :* y :* y) tt

  -- the product of two sums of four squares is one
  four-squares : (a b c d e f g h : Carrier)
      → (a ⊗ a ⊕ b ⊗ b ⊕ c ⊗ c ⊕ d ⊗ d) ⊗ (e ⊗ e ⊕ f ⊗ f ⊕ g ⊗ g ⊕ h ⊗ h)
      ≡ (a ⊗ e ⊕ ⊖ (b ⊗ f) ⊕ ⊖ (c ⊗ g) ⊕ ⊖ (d ⊗ h)) ⊗ (a ⊗ e ⊕ ⊖ (b ⊗ f) ⊕ ⊖ (c ⊗ g) ⊕ ⊖ (d ⊗ h))
      ⊕ (a ⊗ f ⊕ b ⊗ e ⊕ c ⊗ h ⊕ ⊖ (d ⊗ g)) ⊗ (a ⊗ f ⊕ b ⊗ e ⊕ c ⊗ h ⊕ ⊖ (d ⊗ g))
      ⊕ (a ⊗ g ⊕ ⊖ (b ⊗ h) ⊕ c ⊗ e ⊕ d ⊗ f) ⊗ (a ⊗ g ⊕ ⊖ (b ⊗ h) ⊕ c ⊗ e ⊕ d ⊗ f)
      ⊕ (a ⊗ h ⊕ b ⊗ g ⊕ ⊖ (c ⊗ f) ⊕ d ⊗ e) ⊗ (a ⊗ h ⊕ b ⊗ g ⊕ ⊖ (c ⊗ f) ⊕ d ⊗ e)
  four-squares =
      solve8 𝓡
      (λ a b c d e f g h. (a :* a :+ b :* b :+ c :* c :+ d :* d) :* (e :* e :+ f :* f :+ g :* g :+ h :* h))
      (λ a b c d e f g h.
      (a :* e :- b :* f :- c :* g :- d :* h) :* (a :* e :- b :* f :- c :* g :- d :* h)
      :+ (a :* f :+ b :* e :+ c :* h :- d :* g) :* (a :* f :+ b :* e :+ c :* h :- d :* g)
      :+ (a :* g :- b :* h :+ c :* e :+ d :* f) :* (a :* g :- b :* h :+ c :* e :+ d :* f)
      :+ (a :* h :+ b :* g :- c :* f :+ d :* e) :* (a :* h :+ b :* g :- c :* f :+ d :* e))
      tt
