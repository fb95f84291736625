-- Lists of integers written out, as in `+ 1 ∷ - 3 ∷ 5 zeros∷ []`.
use Rattle.std.specs.Prelude.{List, ◌++◌, ℕ, replicate, ℤ, pos, neg_ℤ}

infix 75 +◌
infix 75 -◌
infixr 67 ◌zeros∷◌
abbrev pub +◌ : ℕ → ℤ
+◌ n = pos n

abbrev pub -◌ : ℕ → ℤ
-◌ n = neg_ℤ (pos n)

-- so many zeros, then the list
abbrev pub ◌zeros∷◌ : ℕ → List ℤ → List ℤ
n zeros∷ xs = replicate n (pos 0) ++ xs
