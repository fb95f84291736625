-- The numbers of a case.
--     padded n xs           the first n numbers of xs, zeros after its end
--     word x                the nearest number of 32 bits
--     size_at most xs k      number k as a size of at most `most`; 0 where it is none
--     two_digits, one_digit   the number of a case past `last` is that of a case `back` numbers before it, with z in one digit: which one, and 1 for it
use Rattle.std.specs.Prelude.{cond, List, ℕ, ◌-◌, leb, ltb, ℤ, pos, negsuc, get_or}
use Rattle.std.specs.Int.Signed.{lt_z}
use Rattle.integers.specs.Lists.{tab}

unfoldable pub padded : ℕ → List ℤ → List ℤ
padded n xs = tab n (λ i. get_or xs i (pos 0))

unfoldable pub word : ℤ → ℤ
word x = cond (lt_z (pos 2147483647) x) (pos 2147483647) (cond (lt_z x (negsuc 2147483647)) (negsuc 2147483647) x)

unfoldable pub size_of : ℕ → ℤ → ℕ
size_of most (pos n) = cond (leb n most) n 0
size_of most (negsuc n) = 0

unfoldable pub size_at : ℕ → List ℤ → ℕ → ℕ
size_at most xs k = size_of most (get_or xs k (pos 0))

unfoldable pub two_digits : (last back number : ℕ) → ℕ
two_digits last back number = cond (ltb last number) (number - back) number

unfoldable pub one_digit : (last number : ℕ) → ℕ
one_digit last number = cond (ltb last number) 1 0
