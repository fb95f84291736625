-- Lists laid out one after the other: `flat n F` is F 0 ++ .. ++ F (n - 1), the last one added last, as a loop that counts up adds it.
use Rattle.std.specs.Prelude.{List, [], ◌++◌, ℕ, zero, suc}

module _ {ℓ} {A : Type ℓ} where
  unfoldable pub flat : ℕ → (ℕ → List A) → List A
  flat zero F = []
  flat (suc n) F = flat n F ++ F n
