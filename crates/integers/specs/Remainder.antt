-- Division of an integer by a positive number with a remainder that is never negative, and the centred remainder.
use Rattle.std.specs.Prelude.{ℕ, ◌-◌, ◌/◌, ◌%◌, ℤ, pos, negsuc, ◌+ℤ◌, ◌-ℤ◌}

-- the remainder of z by m, from 0 to m - 1
unfoldable pub emod : ℤ → ℕ → ℕ
emod (pos n) m = n % m
emod (negsuc n) m = m - 1 - n % m

-- the quotient of z by m, rounded down
unfoldable pub ediv : ℤ → ℕ → ℤ
ediv (pos n) m = pos (n / m)
ediv (negsuc n) m = negsuc (n / m)

-- the number congruent to z modulo m that is at least -m/2 and below m/2
unfoldable pub centre : ℕ → ℤ → ℤ
centre m z = pos (emod (z +ℤ pos (m / 2)) m) -ℤ pos (m / 2)
