-- Finite sums of natural numbers, and the squared norm of a list of integers.
--     total n f     f 0 + .. + f (n - 1), the last summand added last, as a loop that counts up adds it
--     sq x          the square of an integer, as a natural number
--     norm_sq xs     the sum of the squares of a list's elements
use Rattle.std.specs.Prelude.{List, [], ◌∷◌, ℕ, zero, suc, ◌+◌, ◌*◌, ℤ, nat_abs}

unfoldable pub total : ℕ → (ℕ → ℕ) → ℕ
total zero f = 0
total (suc n) f = total n f + f n

unfoldable pub sq : ℤ → ℕ
sq x = nat_abs x * nat_abs x

unfoldable pub norm_sq : List ℤ → ℕ
norm_sq [] = 0
norm_sq (x ∷ xs) = sq x + norm_sq xs
