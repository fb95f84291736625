-- A list written at a place of another list: `over out a l` is out with its elements from place a on replaced by those of l.
use Rattle.std.specs.Prelude.{List, ◌++◌, ℕ, ◌+◌, length, take, drop}

module _ {ℓ} {A : Type ℓ} where
  unfoldable pub over : List A → ℕ → List A → List A
  over out a l = take a out ++ (l ++ drop (a + length l) out)
