-- The form Σ g_ii c_i² + 2 Σ_{i<j} g_ij c_i c_j depends on g and c at the places below r only.
use Rattle.std.specs.Prelude.{ℕ, ◌≤◌, ◌<◌, ◌≡◌}
use Rattle.std.proofs.Math.Path.{ap, ap₂}
use Rattle.std.proofs.Common.{arith}
use Rattle.algebra.specs.CommRing.{CommRing}
use Rattle.algebra.specs.Laws.SumLaws.{sum_cong}
use Rattle.algebra.specs.Laws.TriangleLaws.{below_cong}
use Rattle.algebra.specs.DotProduct.{mixed}

module _ (𝓡 : CommRing) where
  infixl 65 ◌⊕◌
  infixl 70 ◌⊗◌
  open 𝓡 use {Carrier as C, one as 𝟙, add as ◌⊕◌, mul as ◌⊗◌}

  pub mixed_cong : (r : ℕ) (g g' : ℕ → ℕ → C) (c c' : ℕ → C)
      → ((i j : ℕ) → i ≤ j → j < r → g i j ≡ g' i j) → ((i : ℕ) → i < r → c i ≡ c' i) → mixed 𝓡 r g c ≡ mixed 𝓡 r g' c'
  unfolding mixed
  mixed_cong r g g' c c' e h =
      ap₂ ◌⊕◌
      (sum_cong 𝓡 r _ _ (λ i l. ap₂ ◌⊗◌ (e i i (omega arith) l) (ap₂ ◌⊗◌ (h i l) (h i l))))
      (ap (λ x. (𝟙 ⊕ 𝟙) ⊗ x)
      (below_cong 𝓡 r _ _ (λ i j d l. ap₂ ◌⊗◌ (e i j (omega arith) l) (ap₂ ◌⊗◌ (h i (omega arith)) (h j l)))))
