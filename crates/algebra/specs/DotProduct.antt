-- Dot-product functions of a witness over a commutative ring: a sum of a_ij <s_i, s_j> over i ≤ j and of <φ_i, s_i>.
--     inner n u v           <u, v> of two vectors of rank n
--     Function, value       the coefficients a, φ of such a function, and its value at a witness
--     plus, combination     sums and linear combinations of functions
--     mixed r g c           Σ g_ii c_i² + 2 Σ_{i<j} g_ij c_i c_j
--     folded r c s          the folded vector z = Σ c_i s_i
--     garbage half n φ s    h_ij = (<φ_i, s_j> + <φ_j, s_i>) / 2, with half the ring's 1/2
use Rattle.std.specs.Prelude.{ℕ}
use Rattle.algebra.specs.CommRing.{CommRing}
use Rattle.algebra.specs.Sum.{sum}
use Rattle.algebra.specs.Triangle.{rows, below}

pub record Function (𝓡 : CommRing) : Type 0 where
  pub a : ℕ → ℕ → 𝓡.Carrier
  pub φ : ℕ → ℕ → 𝓡.Carrier

module _ (𝓡 : CommRing) where
  infixl 65 ◌⊕◌
  infixl 70 ◌⊗◌
  open 𝓡 use {Carrier as C, zero as 𝟘, one as 𝟙, add as ◌⊕◌, mul as ◌⊗◌}

  unfoldable pub inner : ℕ → (ℕ → C) → (ℕ → C) → C
  inner n u v = sum 𝓡 n (λ k. u k ⊗ v k)

  unfoldable pub value : (r n : ℕ) → Function 𝓡 → (ℕ → ℕ → C) → C
  value r n f s = rows 𝓡 r (λ i j. f.a i j ⊗ inner n (s i) (s j)) ⊕ sum 𝓡 r (λ i. inner n (f.φ i) (s i))

  abbrev pub plus : Function 𝓡 → Function 𝓡 → Function 𝓡
  plus f g = record { a = λ i j. f.a i j ⊕ g.a i j; φ = λ i k. f.φ i k ⊕ g.φ i k }

  abbrev pub combination : ℕ → (ℕ → C) → (ℕ → Function 𝓡) → Function 𝓡
  combination m c f = record { a = λ i j. sum 𝓡 m (λ l. c l ⊗ (f l).a i j); φ = λ i k. sum 𝓡 m (λ l. c l ⊗ (f l).φ i k) }

  unfoldable pub mixed : ℕ → (ℕ → ℕ → C) → (ℕ → C) → C
  mixed r g c = sum 𝓡 r (λ i. g i i ⊗ (c i ⊗ c i)) ⊕ (𝟙 ⊕ 𝟙) ⊗ below 𝓡 r (λ i j. g i j ⊗ (c i ⊗ c j))

  unfoldable pub folded : ℕ → (ℕ → C) → (ℕ → ℕ → C) → ℕ → C
  folded r c s k = sum 𝓡 r (λ i. c i ⊗ s i k)

  unfoldable pub garbage : C → ℕ → (ℕ → ℕ → C) → (ℕ → ℕ → C) → ℕ → ℕ → C
  garbage half n φ s i j = half ⊗ (inner n (φ i) (s j) ⊕ inner n (φ j) (s i))
