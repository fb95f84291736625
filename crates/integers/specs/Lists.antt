-- Lists described by index, over any type.
--     tab n f          the list f 0, .., f (n - 1)
--     upto k f z i     f i for i < k, z from there on: `tab n (upto k f z)` is an array of which a loop has filled k places
--     all test xs      a test holds at every element
use Rattle.std.specs.Prelude.{Bool, true, false, cond, List, [], ◌∷◌, ℕ, zero, suc, ltb}

module _ {ℓ} {A : Type ℓ} where
  unfoldable pub tab : ℕ → (ℕ → A) → List A
  tab zero f = []
  tab (suc n) f = f 0 ∷ tab n (λ i. f (suc i))

  unfoldable pub upto : ℕ → (ℕ → A) → A → ℕ → A
  upto k f z i = cond (ltb i k) (f i) z

  unfoldable pub all : (A → Bool) → List A → Bool
  all test [] = true
  all test (x ∷ xs) = cond (test x) (all test xs) false
